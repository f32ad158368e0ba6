use Rattle.std.proofs.Common.{◌≡◌, drop}
use Rattle.board_picture.specs.Shapes.{have_breadth}
use Rattle.board_picture.proofs.shapes.have_breadth.Given as goal

abbrev pub invariant-loop-c : goal.invariant-loop-c
invariant-loop-c l = have_breadth (drop l.c-index l.pieces) ≡ have_breadth l.pieces
