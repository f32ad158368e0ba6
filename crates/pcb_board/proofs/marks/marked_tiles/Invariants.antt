use Rattle.std.proofs.Common.{◌≡◌, take}
use Rattle.std.specs.List.{filter}
use Rattle.pcb_model.specs.declared.item.Item.{Item}
use Rattle.pcb_board.specs.Snaps.{AreTilesOf}
use Rattle.pcb_board.specs.inner.Turning.{is_marked}
use Rattle.pcb_board.proofs.marks.marked_tiles.Given as goal

abbrev pub invariant-loop-item : goal.invariant-loop-item
invariant-loop-item l = record {
  items : l.tiles.items ≡ filter (λ (a : Item). is_marked l.marks a.id) (take l.item-index l.given);
  spread : AreTilesOf l.d l.tiles.area l.tiles.reach;
}
