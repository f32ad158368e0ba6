-- How an entry renews the index of the entries that placed or removed each id.
use Rattle.std.specs.Prelude.{◌≡◌, ℕ, ◌<◌, ◌≤◌, true, false, List, length, slice_index_or}
use Rattle.pcb_board.specs.declared.answer.Entry.{Entry}
use Rattle.pcb_board.specs.declared.answer.Entry.TheVariants.{Join, Back}
use Rattle.board_offers.specs.Items.{names}

-- below n the named ids get the number and the others keep theirs; from n on all have the number
pub record IsRenewed (ids : List ℕ) (n number : ℕ) (changed later : List ℕ) (total : ℕ) : Type 0 where
  pub all : length later ≡ total
  pub named : (x d : ℕ) → x < n → names ids x ≡ true → slice_index_or later x d ≡ number
  pub others : (x d : ℕ) → x < n → names ids x ≡ false
      → slice_index_or later x d ≡ slice_index_or changed x d
  pub fresh : (x d : ℕ) → n ≤ x → x < total → slice_index_or later x d ≡ number

abbrev pub IsJoin : Entry → Type 0
IsJoin (Join offer first after) = Unit {0}
IsJoin (Back to) = ⊥

-- the named ids get the number, and the others keep theirs
pub record AreMarked (ids : List ℕ) (number : ℕ) (changed later : List ℕ) : Type 0 where
  pub named : (x d : ℕ) → x < length changed → names ids x ≡ true → slice_index_or later x d ≡ number
  pub others : (x d : ℕ) → x < length changed → names ids x ≡ false
      → slice_index_or later x d ≡ slice_index_or changed x d
