use Rattle.std.proofs.Common.{◌<◌, List, All, sym, ◌∙◌, ap, subst}
use Rattle.pcb_model.specs.declared.item.Item.{Item}
use Rattle.pcb_model.specs.Bounds.{IsItemFit}
use Rattle.tests_board.proofs.Exchange.{below}
use Rattle.tests_board.proofs.laying.copper_with.Goals as goal

pub add_plain-requires-clause-above : goal.add_plain-requires-clause-above
add_plain-requires-clause-above c =
    subst (λ (xs : List Item). All (λ (b : Item). b.id < c.in_ok-copy.copy.id) xs) (sym c.in_ok-copper.ensures)
    (below c.args.d.now c.requires.sound c.in_ok-copy.copy.id
    (ap (λ (a : Item). a.id) c.in_ok-copy.ensures ∙ c.requires.id))

pub add_plain-requires-clause-fits : goal.add_plain-requires-clause-fits
add_plain-requires-clause-fits c = subst IsItemFit (sym c.in_ok-copy.ensures) c.requires.of.fits
