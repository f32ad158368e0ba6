use Rattle.std.proofs.Common.{◌≡◌, All, sym, subst, ◌∙◌}
use Rattle.std.specs.Prelude.{IfOk}
use Rattle.pcb_model.specs.declared.item.Item.{Item}
use Rattle.pcb_model.specs.Bounds.{IsItemFit}
use Rattle.pcb_tiles.specs.Cells.{with_item}
use Rattle.pcb_tiles.specs.Shelves.{flat}
use Rattle.pcb_tiles.proofs.parts.with_more.Goals as goal

pub with_held-requires-clause-absent : goal.with_held-requires-clause-absent
with_held-requires-clause-absent c =
    subst (λ (x : Item). All (λ (b : Item). b.id ≡ x.id → ⊥) (flat c.args.shelf.now))
    (sym (c.in_ok-held.ensures.ok ∙ c.in_ok-copy_item.ensures))
    c.requires.absent

pub with_held-requires-clause-fits : goal.with_held-requires-clause-fits
with_held-requires-clause-fits c =
    subst IsItemFit (sym (c.in_ok-held.ensures.ok ∙ c.in_ok-copy_item.ensures)) c.requires.fits

pub returns-clause-items : goal.returns-clause-items
returns-clause-items c =
    subst (λ (x : Item). IfOk c.with_held.result (λ p. flat p.0 ≡ with_item x (flat c.args.shelf.now)))
    (c.in_ok-held.ensures.ok ∙ c.in_ok-copy_item.ensures) c.with_held.ensures.items
