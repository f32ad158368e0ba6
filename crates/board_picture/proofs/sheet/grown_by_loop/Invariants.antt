use Rattle.std.proofs.Common.{◌≡◌, take}
use Rattle.board_picture.specs.Sheet.{grown_by_loop}
use Rattle.board_picture.proofs.sheet.grown_by_loop.Given as goal

abbrev pub invariant-loop-p : goal.invariant-loop-p
invariant-loop-p l = l.all ≡ grown_by_loop l.fn.b (take l.p-index l.points)
