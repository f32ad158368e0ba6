use Rattle.std.proofs.Common.{◌≡◌, length, vec_len}
use Rattle.pcb_board.specs.inner.Turning.{IsReached}
use Rattle.pcb_board.specs.Indexing.{board_of}
use Rattle.pcb_board.proofs.board.Board.marks_after.Given as goal

abbrev pub invariant-loop-k : goal.invariant-loop-k
invariant-loop-k l = record {
  long : length l.marks.items ≡ length l.self-inside.given.items;
  reached : IsReached (board_of l.self-inside) l.to l.joins.items l.marks.items;
}

abbrev pub decreases-loop-k : goal.decreases-loop-k
decreases-loop-k l = vec_len l.joins
