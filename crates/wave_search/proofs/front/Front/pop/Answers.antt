use Rattle.std.proofs.Common.{◌≡◌, List, [], ◌++◌, subst}
use Rattle.wave_search.specs.declared.front.Entry.{Entry}
use Rattle.wave_search.specs.inner.Waiting.{IsTaken}
use Rattle.wave_search.specs.inner.Order.{entry_of, entries_of}
use Rattle.wave_search.specs.inner.Ready.{far_of, all_of}
use Rattle.wave_search.proofs.Joined.{nothing_waits, taken_before, taken_same}
use Rattle.wave_search.proofs.front.Front.pop.Goals as goal

pub returns-in_default : goal.returns-in_default
returns-in_default c = subst (λ (o : List Entry). (o ≡ []) ×
    (entries_of c.take_top.new.near ++ far_of c.make_ready.new.self ≡ [])) c.self.view_is
    (nothing_waits (entries_of c.make_ready.new.self.near) (entries_of c.take_top.new.near)
    (far_of c.make_ready.new.self)
    (all_of c.self.inside.bins) c.in_default.ensures.top.0 c.in_default.ensures.top.1
    c.in_ok-make_ready.ensures.ready.before c.in_ok-make_ready.ensures.same)

pub returns : goal.returns
returns c = subst (λ (o : List Entry). IsTaken o (entry_of c.in-Some.item)
    (entries_of c.take_top.new.near ++ far_of c.make_ready.new.self)) c.self.view_is
    (taken_same (all_of c.self.inside.bins) (all_of c.make_ready.new.self) _
    (entry_of c.in-Some.item) c.in_ok-make_ready.ensures.same
    (taken_before (entries_of c.make_ready.new.self.near) (entries_of c.take_top.new.near)
    (far_of c.make_ready.new.self)
    (entry_of c.in-Some.item) c.in-Some.ensures.top c.in_ok-make_ready.ensures.ready.before))
