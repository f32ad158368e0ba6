use Rattle.std.proofs.lemmas.Result.{on_ok_weaker}
use Rattle.std.specs.BinaryHeap.{heap_items}
use Rattle.wave_search.specs.inner.Order.{entry_of, entries_of}
use Rattle.wave_search.specs.inner.Ready.{far_of}
use Rattle.wave_search.proofs.Heap.{pushed}
use Rattle.wave_search.proofs.Joined.{added_left, added_first, added_second, added_third}
use Rattle.wave_search.proofs.front.Bins.place.Goals as goal

pub returns-in_ok-push-clause-ok : goal.returns-in_ok-push-clause-ok
returns-in_ok-push-clause-ok c = added_left (entries_of c.args.self.now.near) (entries_of c.push.new.self)
    (far_of c.args.self.now) (entry_of c.args.item)
    (pushed (heap_items c.args.self.now.near) (heap_items c.push.new.self)
    (record { 0 = c.args.item }) c.in_ok-push.ensures.permutation)

pub returns-then-item-self-2-clause-ok : goal.returns-then-item-self-2-clause-ok
returns-then-item-self-2-clause-ok c = on_ok_weaker _ (added_first
    (entries_of c.args.self.now.near) c.args.self.now.next c.push-then-item-self-2.new.self c.args.self.now.later
    c.args.self.now.last c.args.self.now.spare (entry_of c.args.item)) c.push-then-item-self-2.ensures.ok

pub returns-then-item-self-3-clause-ok : goal.returns-then-item-self-3-clause-ok
returns-then-item-self-3-clause-ok c = on_ok_weaker _ (added_second
    (entries_of c.args.self.now.near) c.args.self.now.next c.args.self.now.later c.push-then-item-self-3.new.self
    c.args.self.now.last c.args.self.now.spare (entry_of c.args.item)) c.push-then-item-self-3.ensures.ok

pub returns-else-item-self-3-clause-ok : goal.returns-else-item-self-3-clause-ok
returns-else-item-self-3-clause-ok c = on_ok_weaker _ (added_third
    (entries_of c.args.self.now.near) c.args.self.now.next c.args.self.now.later c.args.self.now.last
    c.push-else-item-self-3.new.self c.args.self.now.spare (entry_of c.args.item)) c.push-else-item-self-3.ensures.ok
