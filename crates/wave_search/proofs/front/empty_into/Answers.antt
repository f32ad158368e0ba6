use Rattle.std.specs.BinaryHeap.{heap_items}
use Rattle.wave_search.specs.inner.Order.{entry_of, entries_of}
use Rattle.wave_search.proofs.Heap.{pushed}
use Rattle.wave_search.proofs.Joined.{same_trans, moved}
use Rattle.wave_search.proofs.front.empty_into.Goals as goal

pub loop-item-preserved : goal.loop-item-preserved
loop-item-preserved c = record {
  ordered = c.in_ok-push.ensures.heap_order c.loop-item.invariant.ordered;
  same = same_trans _ _ _ c.loop-item.invariant.same (moved (entries_of c.loop-item.near)
      (entries_of c.push.new.self) c.loop-item.bin c.pop.new.self (entry_of c.in-Some.item) c.in-Some.ensures
      (pushed (heap_items c.loop-item.near) (heap_items c.push.new.self)
      (record { 0 = c.in-Some.item }) c.in_ok-push.ensures.permutation));
}
