use Rattle.std.proofs.Common.{◌++◌, List, All, sym, ap, ◌∙◌, subst}
use Rattle.std.specs.Prelude.{map}
use Rattle.pcb_model.specs.declared.item.Item.{Item}
use Rattle.pcb_model.specs.Bounds.{IsItemFit}
use Rattle.pcb_model.specs.Copper.{Ascends}
use Rattle.plane_joins.specs.Stubs.{loose}
use Rattle.plane_stubs.proofs.Adding.{first_ascends, first_fit}
use Rattle.plane_stubs.proofs.planned.first_held.Goals as goal

pub of-requires-clause-ascends : goal.of-requires-clause-ascends
of-requires-clause-ascends c =
    let d = c.args.d.now in
    subst Ascends
    (sym (c.as_slice-2.ensures ∙ c.in_ok-items.ensures
    ∙ ap (λ (xs : List Item). d.fixed ++ map loose xs) c.as_slice.ensures))
    (first_ascends d c.requires.sound c.args.ribs c.requires.follow)

pub of-requires-clause-fit : goal.of-requires-clause-fit
of-requires-clause-fit c =
    let d = c.args.d.now in
    subst (All IsItemFit)
    (sym (c.as_slice-2.ensures ∙ c.in_ok-items.ensures
    ∙ ap (λ (xs : List Item). d.fixed ++ map loose xs) c.as_slice.ensures))
    (first_fit d c.requires.sound c.args.ribs c.requires.follow)
