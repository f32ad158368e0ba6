use Rattle.std.proofs.Common.{◌≤◌, ◌+◌, take, All, None}
use Rattle.pcb_tiles.specs.Searches.{IsPassed}
use Rattle.pcb_tiles.proofs.search.any_in_cell.Given as goal

abbrev pub invariant-loop-e : goal.invariant-loop-e
invariant-loop-e g l = record {
  passed : All (IsPassed (g.S.Seeks.no l.s) 0 None) (take l.e-index l.cell);
  cost : l.steps ≤ l.fn.steps + l.e-index;
}
