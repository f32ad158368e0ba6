-- How a board finds the items after some of its entries.
use Rattle.std.specs.Prelude.{◌≡◌, ◌≢◌, ℕ, ◌+◌, ◌<◌, ◌≤◌, Bool, true, false, List, [], ◌∷◌, length, slice_get}
use Rattle.std.specs.Prelude.{slice_index_or, Some}
use Rattle.pcb_model.specs.declared.item.Item.{Item}
use Rattle.board_offers.specs.declared.offer.Offer.{Offer}
use Rattle.board_offers.specs.Items.{names, is_on, gone}
use Rattle.pcb_board.specs.declared.answer.Entry.{Entry}
use Rattle.pcb_board.specs.declared.answer.Entry.TheVariants.{Join, Back}
use Rattle.pcb_board.specs.Boards.{BoardOf, replayed}

-- entry k + 1 is a join
pub record IsJoinAt (b : BoardOf) (k : ℕ) : Type 0 where
  pub offer : Offer
  pub first : ℕ
  pub after : ℕ
  pub there : slice_get b.history k ≡ Some (Join offer first after)

-- the joins that lead from the items after k entries to those after n, the last first
abbrev pub LeadBack : BoardOf → ℕ → List ℕ → ℕ → Type 0
LeadBack b n [] k = replayed b n ≡ replayed b k
LeadBack b n (j ∷ js) k = (replayed b n ≡ replayed b (j + 1)) × IsJoinAt b j × LeadBack b j js k

-- ---- marks of ids
abbrev pub is_marked : List Bool → ℕ → Bool
is_marked marks x = slice_index_or marks x false

-- the marks say which of the ids stand among the items
pub record AreMarks (marks : List Bool) (items : List Item) : Type 0 where
  pub each : (x : ℕ) (d : Bool) → x < length marks → slice_index_or marks x d ≡ is_on x items

-- the marks of some ids are put to a value, and the others stay
pub record ArePut (ids : List ℕ) (value : Bool) (old new : List Bool) : Type 0 where
  pub long : length new ≡ length old
  pub named : (x : ℕ) (d : Bool) → x < length old → names ids x ≡ true → slice_index_or new x d ≡ value
  pub others : (x : ℕ) (d : Bool) → x < length old → names ids x ≡ false
      → slice_index_or new x d ≡ slice_index_or old x d

-- the ids from one to before another are marked, and the others stay
pub record IsRangePut (from to : ℕ) (old new : List Bool) : Type 0 where
  pub long : length new ≡ length old
  pub within : (x : ℕ) (d : Bool) → from ≤ x → x < to → slice_index_or new x d ≡ true
  pub below : (x : ℕ) (d : Bool) → x < from → slice_index_or new x d ≡ slice_index_or old x d
  pub above : (x : ℕ) (d : Bool) → to ≤ x → slice_index_or new x d ≡ slice_index_or old x d

-- what a join takes out isn't marked any more, and its new items are
abbrev pub MarksJoin : Entry → List Bool → List Bool → Type 0
MarksJoin (Join o first after) old new =
    (out : List Bool) × ArePut (gone o) false old out × IsRangePut first after out new
MarksJoin (Back to) old new = new ≡ old

-- a join's new ids are below n
abbrev pub EndsWithin : Entry → ℕ → Type 0
EndsWithin (Join o first after) n = (first ≤ after) × (after ≤ n)
EndsWithin (Back to) n = Unit {0}

-- of the ids below n, those of which it changes whether they stand get the number, and the others keep theirs
pub record AreTurned (items : List Item) (marks : List Bool) (number n : ℕ) (changed later : List ℕ) : Type 0 where
  pub long : length later ≡ length changed
  pub turned : (x d : ℕ) → x < n → is_on x items ≢ is_marked marks x → slice_index_or later x d ≡ number
  pub others : (x d : ℕ) → x < n → is_on x items ≡ is_marked marks x
      → slice_index_or later x d ≡ slice_index_or changed x d
  pub above : (x d : ℕ) → n ≤ x → slice_index_or later x d ≡ slice_index_or changed x d

-- the marks are those after k entries, from which the joins lead to the items after n
pub record IsReached (b : BoardOf) (n : ℕ) (joins : List ℕ) (marks : List Bool) : Type 0 where
  pub k : ℕ
  pub marked : AreMarks marks (replayed b k)
  pub leads : LeadBack b n joins k
