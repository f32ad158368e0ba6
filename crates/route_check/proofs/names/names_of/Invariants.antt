use Rattle.std.proofs.Common.{◌≡◌, map, take}
use Rattle.route_check.specs.Judged.{first_name}
use Rattle.route_check.proofs.names.names_of.Given as goal

abbrev pub invariant-loop-s : goal.invariant-loop-s
invariant-loop-s l = l.names ≡ map (first_name l.d) (take l.s-index l.own)
