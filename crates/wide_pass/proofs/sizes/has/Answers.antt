use Rattle.geo_kernel.proofs.Ascending.{found_number}
use Rattle.std.proofs.Common.{subst, sym, Bool}
use Rattle.std.specs.Prelude.{IsTrue, ◌↔◌, Contains}
use Rattle.wide_pass.proofs.sizes.has.Goals as goal

pub returns : goal.returns
returns c =
    let found = found_number c.args.nodes.now c.args.node c.binary_search.result c.requires in
    subst (λ (b : Bool). IsTrue b ↔ Contains c.args.nodes.now c.args.node) (sym c.is_ok.ensures.value)
    (found c.binary_search.ensures.position)
