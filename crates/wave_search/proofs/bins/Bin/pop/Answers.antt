use Rattle.std.proofs.Common.{List, subst}
use Rattle.wave_search.specs.declared.front.Entry.{Entry}
use Rattle.wave_search.specs.inner.Waiting.{IsDrawn}
use Rattle.wave_search.specs.inner.Order.{entry_of, entries_in}
use Rattle.wave_search.proofs.Joined.{unbinned}
use Rattle.wave_search.proofs.bins.Bin.pop.Goals as goal

pub returns : goal.returns
returns c = subst (λ (o : List Entry). IsDrawn o (entry_of c.in-Some.item)
    (entries_in c.pop.new.self.items)) c.self.view_is
    (unbinned c.self.inside.items.items c.pop.new.self.items c.in-Some.item c.in-Some.ensures.items)

pub invariant_of-self : goal.invariant_of-self
invariant_of-self c = λ e w. c.self.invariant e
    ((unbinned c.self.inside.items.items c.pop.new.self.items c.in-Some.item c.in-Some.ensures.items).only e w)
