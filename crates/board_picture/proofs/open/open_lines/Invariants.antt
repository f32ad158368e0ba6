use Rattle.board_picture.specs.Open.{AreOpenUpTo}
use Rattle.board_picture.proofs.open.open_lines.Given as goal

abbrev pub invariant-loop-net : goal.invariant-loop-net
invariant-loop-net g l = AreOpenUpTo l.d (g.C.Copper.items l.c) l.net l.lines
