use Rattle.std.proofs.Common.{◌≡◌, take}
use Rattle.std.specs.List.{fold}
use Rattle.board_picture.specs.Sheet.{grown_by_bound, box_at, first_point}
use Rattle.board_picture.proofs.sheet.box_of.Given as goal

abbrev pub invariant-loop-loops : goal.invariant-loop-loops
invariant-loop-loops l = l.all ≡ fold grown_by_bound (box_at (first_point l.bounds)) (take l.loops-index l.bounds)
