use Rattle.std.proofs.Common.{◌≡◌, map, take}
use Rattle.route_check.specs.Judged.{first_name}
use Rattle.route_check.proofs.names.first_names.Given as goal

abbrev pub invariant-loop-own : goal.invariant-loop-own
invariant-loop-own l = l.names ≡ map (map (first_name l.d)) (take l.own-index l.found)
