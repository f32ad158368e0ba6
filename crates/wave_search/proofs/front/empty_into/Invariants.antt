use Rattle.std.proofs.Common.{◌++◌, length}
use Rattle.wave_search.specs.inner.Waiting.{IsSame}
use Rattle.wave_search.specs.inner.Order.{entries_of, IsOrdered}
use Rattle.wave_search.proofs.front.empty_into.Given as goal

abbrev pub invariant-loop-item : goal.invariant-loop-item
invariant-loop-item l = record {
  ordered : IsOrdered l.near;
  same : IsSame (entries_of l.initial.near ++ l.initial.bin) (entries_of l.near ++ l.bin);
}

abbrev pub decreases-loop-item : goal.decreases-loop-item
decreases-loop-item l = length l.bin
