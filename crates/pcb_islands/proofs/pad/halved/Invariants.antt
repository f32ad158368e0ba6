use Rattle.std.proofs.Common.{◌-◌, ◌≤◌, length}
use Rattle.pcb_islands.proofs.pad.halved.Given as goal

abbrev pub invariant-loop-low : goal.invariant-loop-low
invariant-loop-low l = l.high ≤ length l.fixed

abbrev pub decreases-loop-low : goal.decreases-loop-low
decreases-loop-low l = l.high - l.low
