use Rattle.std.proofs.Common.{◌-◌, ◌^◌}
use Rattle.shove.specs.inner.Steps.{TouchesBelow}
use Rattle.shove.proofs.replace.Replacement.touches_all.Given as goal

abbrev pub invariant-loop-id : goal.invariant-loop-id
invariant-loop-id g l = TouchesBelow l.self.on.items l.self.old.now l.self.new.now l.from

abbrev pub decreases-loop-id : goal.decreases-loop-id
decreases-loop-id g l = 2 ^ 64 - l.from
