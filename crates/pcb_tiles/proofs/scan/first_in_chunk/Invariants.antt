use Rattle.std.proofs.Common.{◌≤◌, ◌+◌, take, drop, All}
use Rattle.std.specs.List.{count_by}
use Rattle.pcb_tiles.specs.Scans.{is_entered, IsUnsought}
use Rattle.pcb_tiles.proofs.scan.first_in_chunk.Given as goal

abbrev pub invariant-loop-a : goal.invariant-loop-a
invariant-loop-a g l = record {
  passed : All (IsUnsought (g.S.Seeks.no l.s) l.from l.area l.b) (take l.a-index l.items);
  cost : l.steps + count_by (is_entered l.area l.b) (drop l.a-index l.items)
      ≤ l.fn.steps + count_by (is_entered l.area l.b) l.items;
}
