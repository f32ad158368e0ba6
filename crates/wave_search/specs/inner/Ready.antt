-- What waits in the heap of a front, and in the bins beside it.
use Rattle.std.specs.Prelude.{◌≤◌, ◌++◌, List}
use Rattle.wave_search.specs.declared.front.Entry.{Entry}
use Rattle.wave_search.specs.declared.front.Bins.{Bins}
use Rattle.wave_search.specs.inner.Waiting.{Waits}
use Rattle.wave_search.specs.inner.Order.{entries_of}

-- what isn't in the heap
abbrev pub far_of : Bins → List Entry
far_of p = p.next ++ (p.later ++ (p.last ++ p.spare))

abbrev pub all_of : Bins → List Entry
all_of p = entries_of p.near ++ far_of p

-- for each entry that isn't in the heap there is one in the heap with a key that isn't greater
pub record IsReady (p : Bins) : Type 0 where
  pub before : (e : Entry) → Waits (far_of p) e → (y : Entry) × Waits (entries_of p.near) y × (y.key ≤ e.key)
