use Rattle.std.proofs.Common.{◌≡◌, drop}
use Rattle.board_picture.specs.Legend.{is_there}
use Rattle.board_picture.proofs.legend.is_there.Given as goal

abbrev pub invariant-loop-a : goal.invariant-loop-a
invariant-loop-a l = is_there l.layers (drop l.a-index l.items) l.mark ≡ is_there l.layers l.items l.mark
