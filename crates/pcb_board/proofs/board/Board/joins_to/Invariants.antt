use Rattle.std.proofs.Common.{◌≤◌, length}
use Rattle.pcb_board.specs.inner.Turning.{LeadBack}
use Rattle.pcb_board.specs.Indexing.{board_of}
use Rattle.pcb_board.proofs.board.Board.joins_to.Given as goal

abbrev pub invariant-loop-k : goal.invariant-loop-k
invariant-loop-k l = record {
  within : l.k ≤ length l.self-inside.history;
  leads : LeadBack (board_of l.self-inside) l.to l.joins.items l.k;
}

abbrev pub decreases-loop-k : goal.decreases-loop-k
decreases-loop-k l = l.k
