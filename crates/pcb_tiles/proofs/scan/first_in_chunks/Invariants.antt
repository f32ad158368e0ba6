use Rattle.std.proofs.Common.{◌≤◌, ◌+◌, take, drop, All}
use Rattle.std.specs.List.{count_by}
use Rattle.pcb_tiles.specs.Scans.{is_entered, IsUnsought}
use Rattle.pcb_tiles.specs.Shelves.{flat}
use Rattle.pcb_tiles.proofs.scan.first_in_chunks.Given as goal

abbrev pub invariant-loop-c : goal.invariant-loop-c
invariant-loop-c g l = record {
  passed : All (IsUnsought (g.S.Seeks.no l.s) l.from l.area l.b) (flat (take l.c-index l.chunks));
  cost : l.steps + count_by (is_entered l.area l.b) (flat (drop l.c-index l.chunks))
      ≤ l.fn.steps + count_by (is_entered l.area l.b) (flat l.chunks);
}
