use Rattle.std.proofs.Common.{◌≡◌, take, eqb, not, filter}
use Rattle.pcb_model.specs.declared.item.Item.{Item}
use Rattle.pcb_tiles.proofs.shelf.take_from.Given as goal

abbrev pub invariant-loop-f : goal.invariant-loop-f
invariant-loop-f l = l.kept ≡ filter (λ (f : Item). not (eqb f.id l.id)) (take l.f-index l.items)
