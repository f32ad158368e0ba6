use Rattle.std.proofs.Common.{length}
use Rattle.wave_search.specs.inner.Waiting.{IsSame}
use Rattle.wave_search.specs.inner.Order.{IsOrdered}
use Rattle.wave_search.specs.inner.Ready.{all_of}
use Rattle.wave_search.proofs.front.Bins.refill.Given as goal

abbrev pub invariant-loop-item : goal.invariant-loop-item
invariant-loop-item l = record {
  ordered : IsOrdered l.self.near;
  same : IsSame (all_of l.initial.self) (all_of l.self);
}

abbrev pub decreases-loop-item : goal.decreases-loop-item
decreases-loop-item l = length l.self.spare
