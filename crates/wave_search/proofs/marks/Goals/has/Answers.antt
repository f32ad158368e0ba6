use Rattle.std.proofs.Common.{List, ℕ, subst}
use Rattle.std.specs.Prelude.{IsTrue, Contains, ◌↔◌}
use Rattle.wave_search.proofs.marks.Goals.has.Goals as goal

pub returns : goal.returns
returns c =
    let i = c.self.invariant c.args.v in
    subst (λ (xs : List ℕ). IsTrue c.has.result ↔ Contains xs c.args.v) c.self.view_is
    (λ t. i.0 (c.has.ensures.0 t), λ h. c.has.ensures.1 (i.1 h))
