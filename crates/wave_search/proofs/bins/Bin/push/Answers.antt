use Rattle.std.proofs.Common.{ℕ, List, subst, sym}
use Rattle.wave_search.specs.declared.front.Entry.{Entry}
use Rattle.wave_search.specs.inner.Waiting.{IsAdded}
use Rattle.wave_search.specs.inner.Order.{entry_of, entries_in, IsBounded}
use Rattle.wave_search.proofs.Joined.{binned, bounded}
use Rattle.wave_search.proofs.bins.Bin.push.Goals as goal

pub returns-clause-ok : goal.returns-clause-ok
returns-clause-ok c = subst (λ (o : List Entry). IsAdded o (entry_of c.args.item)
    (entries_in c.push.new.self.items)) c.self.view_is
    (binned c.self.inside.items.items c.push.new.self.items c.args.item c.in_ok-push.ensures.items)

pub invariant_of-self-2 : goal.invariant_of-self-2
invariant_of-self-2 c = subst (λ (k : ℕ). IsBounded k (entries_in c.push.new.self.items))
    (sym c.min-self-inside.ensures)
    (bounded c.self.inside.least c.self.inside.items.items c.push.new.self.items c.args.item
    c.in_ok-push.ensures.items c.self.invariant)
