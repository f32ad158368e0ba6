use Rattle.std.proofs.Common.{◌≡◌, drop}
use Rattle.std.specs.List.{list_any}
use Rattle.board_picture.specs.Names.{meets}
use Rattle.board_picture.proofs.names.meets_any.Given as goal

abbrev pub invariant-loop-b : goal.invariant-loop-b
invariant-loop-b l = list_any (meets l.s l.a) (drop l.b-index l.shown) ≡ list_any (meets l.s l.a) l.shown
