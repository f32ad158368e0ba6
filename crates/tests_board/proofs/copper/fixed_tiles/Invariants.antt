use Rattle.std.proofs.Common.{◌≡◌, take}
use Rattle.pcb_model.specs.Bounds.{HasClearancesWithin}
use Rattle.tests_board.proofs.copper.fixed_tiles.Given as goal

abbrev pub invariant-loop-item : goal.invariant-loop-item
invariant-loop-item l = record {
  items : l.tiles.items ≡ take l.item-index l.d.fixed;
  reaches : HasClearancesWithin l.tiles.reach l.d;
}
