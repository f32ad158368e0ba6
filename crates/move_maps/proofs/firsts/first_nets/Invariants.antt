use Rattle.move_maps.proofs.Grouping.{AreFirstsBelow}
use Rattle.move_maps.proofs.firsts.first_nets.Given as goal

-- these are the first nets of the groups of the nets so far
abbrev pub invariant-loop-net : goal.invariant-loop-net
invariant-loop-net g l = AreFirstsBelow l.on.d l.on.lat l.net l.firsts l.used
