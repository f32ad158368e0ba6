use Rattle.wave_search.specs.inner.Order.{entry_of, entries_of}
use Rattle.wave_search.specs.inner.Ready.{all_of}
use Rattle.wave_search.proofs.Joined.{same_trans, replaced, drawn_last}
use Rattle.wave_search.proofs.front.Bins.refill.Goals as goal

pub loop-item-preserved : goal.loop-item-preserved
loop-item-preserved c = record {
  ordered = c.in_ok-place.ensures.ordered;
  same = same_trans _ _ _ c.loop-item.invariant.same (replaced _ _ (all_of c.place.new.self) (entry_of c.in-Some.item)
      (drawn_last (entries_of c.loop-item.self.near) c.loop-item.self.next c.loop-item.self.later
      c.loop-item.self.last c.loop-item.self.spare c.pop.new.self
      (entry_of c.in-Some.item) c.in-Some.ensures) c.in_ok-place.ensures.ok);
}
