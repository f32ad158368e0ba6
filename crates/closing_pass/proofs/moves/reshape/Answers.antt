use Rattle.std.proofs.Common.{◌≡◌, ◌∙◌, List, ap, false, subst, sym}
use Rattle.std.specs.Prelude.{IfOk}
use Rattle.geo_kernel.specs.declared.point.Point.{Point}
use Rattle.pcb_model.specs.declared.item.Metal.{Metal}
use Rattle.pcb_model.specs.declared.item.Metal.TheVariants as metal
use Rattle.pcb_model.specs.Bounds.{IsMetalFit}
use Rattle.pcb_model.specs.Pieces.{item_of}
use Rattle.board_offers.specs.Items.{with_chain}
use Rattle.closing_pass.proofs.moves.reshape.Goals as goal

pub make_item-requires-clause-place : goal.make_item-requires-clause-place
make_item-requires-clause-place c =
    subst (λ (ps : List Point). IsMetalFit (metal.Wire c.in-Wire.layer c.in-Wire.width ps))
    (sym (c.in_ok-from_slice.ensures ∙ c.as_slice.ensures))
    (subst (λ (m : Metal). IsMetalFit (with_chain c.args.chain.now m)) c.in-Wire.is c.requires.fit)

pub returns : goal.returns
returns c =
    let a = c.args.item.now in
    let same : metal.Wire c.in-Wire.layer c.in-Wire.width c.in_ok-from_slice.field-0
    ≡ with_chain c.args.chain.now a.metal =
    ap (λ (ps : List Point). metal.Wire c.in-Wire.layer c.in-Wire.width ps)
    (c.in_ok-from_slice.ensures ∙ c.as_slice.ensures)
    ∙ ap (λ (m : Metal). with_chain c.args.chain.now m) (sym c.in-Wire.is) in
    subst (λ (m : Metal). IfOk c.make_item.result (λ b. b ≡ item_of c.args.d.now a.id a.net false m)) same
    c.make_item.ensures
