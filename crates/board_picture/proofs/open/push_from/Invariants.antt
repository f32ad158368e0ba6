use Rattle.std.proofs.Common.{◌≡◌, ◌++◌, drop}
use Rattle.board_picture.specs.Open.{lines_from}
use Rattle.board_picture.proofs.open.push_from.Given as goal

abbrev pub invariant-loop-island : goal.invariant-loop-island
invariant-loop-island l =
    l.lines ++ lines_from l.d l.before (drop l.island-index l.others) ≡ l.fn.lines ++ lines_from l.d l.fn.first l.others
