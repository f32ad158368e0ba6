use Rattle.std.proofs.Common.{◌≡◌, take}
use Rattle.board_picture.specs.Sheet.{grown_by_bound}
use Rattle.board_picture.proofs.sheet.grown_by_bound.Given as goal

abbrev pub invariant-loop-points : goal.invariant-loop-points
invariant-loop-points l = l.all ≡ grown_by_bound l.fn.b (take l.points-index l.loops)
