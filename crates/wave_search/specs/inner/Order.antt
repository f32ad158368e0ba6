-- Items, the entries that they stand for, and a heap of them, of which the least is on top.
use Rattle.std.specs.Prelude.{◌≤◌, ℕ, List, map}
use Rattle.std.specs.declared.cmp.Ordering.{Ordering}
use Rattle.std.specs.Ordering.{nat_cmp, ordering_then}
use Rattle.std.specs.BinaryHeap.{heap_items, IsHeap}
use Rattle.std.specs.declared.collections.BinaryHeap.{BinaryHeap}
use Rattle.std.specs.declared.cmp.Reverse.{Reverse}
use Rattle.std.specs.declared.alloc.Global.{Global}
use Rattle.wave_search.specs.declared.front.Entry.{Entry}
use Rattle.wave_search.specs.declared.bins.Waiting.{Waiting}
use Rattle.wave_search.specs.inner.Waiting.{Waits}

-- by key, then by order, then by node
abbrev pub waiting_cmp : Waiting → Waiting → Ordering
waiting_cmp a b = ordering_then (nat_cmp a.key b.key) (ordering_then (nat_cmp a.order b.order) (nat_cmp a.node b.node))

-- the greater comes first
abbrev pub later_cmp : Reverse Waiting → Reverse Waiting → Ordering
later_cmp x y = waiting_cmp y.0 x.0

-- the entry that an item stands for
abbrev pub entry_of : Waiting → Entry
entry_of i = record { key = i.key; node = i.node }

abbrev pub inner : Reverse Waiting → Entry
inner r = entry_of r.0

abbrev pub entries_in : List Waiting → List Entry
entries_in items = map entry_of items

abbrev pub entries_of : BinaryHeap (Reverse Waiting) Global → List Entry
entries_of h = map inner (heap_items h)

abbrev pub IsOrdered : BinaryHeap (Reverse Waiting) Global → Type 0
IsOrdered h = IsHeap later_cmp (heap_items h)

-- no key is below that number
abbrev pub IsBounded : ℕ → List Entry → Type 0
IsBounded least entries = (e : Entry) → Waits entries e → least ≤ e.key
