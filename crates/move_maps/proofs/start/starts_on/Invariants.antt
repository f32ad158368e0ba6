use Rattle.move_maps.specs.Starts.{AreStarts}
use Rattle.move_maps.proofs.start.starts_on.Given as goal

-- the moves so far
abbrev pub invariant-loop-i : goal.invariant-loop-i
invariant-loop-i g l = AreStarts l.moves.d.now l.moves.lat.now l.moves.net l.level l.i l.starts
