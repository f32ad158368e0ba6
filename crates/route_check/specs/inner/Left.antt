-- Which items of a session are left, and the next item of a net.
use Rattle.std.specs.Prelude.{◌≡◌, ℕ, ◌+◌, ◌≤◌, ◌<◌, Bool, false, List, [], ◌∷◌, Some, length, slice_get}
use Rattle.std.specs.Prelude.{if◌then◌else◌}
use Rattle.pcb_model.specs.declared.item.Item.{Item}
use Rattle.ses_reader.specs.declared.item.SesItem.{SesItem}
use Rattle.route_check.specs.Board.{is_same}

-- the items that aren't gone
abbrev pub kept : List Bool → List SesItem → List SesItem
kept [] xs = []
kept (gone ∷ flags) [] = []
kept (gone ∷ flags) (x ∷ xs) = if gone then kept flags xs else x ∷ kept flags xs

-- the place of the net's next item, from a place on; where there is none, the number of items
pub record IsNextOf (xs : List SesItem) (net from place : ℕ) : Type 0 where
  pub within : place ≤ length xs
  pub from_on : from ≤ place
  pub own : (x : SesItem) → slice_get xs place ≡ Some x → x.net ≡ net
  pub before : (i : ℕ) (x : SesItem) → from ≤ i → i < place → slice_get xs i ≡ Some x → x.net ≡ net → ⊥

-- of each net the first item from a place on, and of each item from there on the next one of its net
pub record AreLinked (xs : List SesItem) (nets from : ℕ) (first next : List ℕ) : Type 0 where
  pub all_nets : length first ≡ nets
  pub all_items : length next ≡ length xs
  pub firsts : (net place : ℕ) → slice_get first net ≡ Some place → IsNextOf xs net from place
  pub nexts : (i place : ℕ) (x : SesItem) → from ≤ i → slice_get xs i ≡ Some x → slice_get next i ≡ Some place
      → IsNextOf xs x.net (i + 1) place

-- no item before the place is there and the same as the fixed one
pub record NoneSame (a : Item) (xs : List SesItem) (gone : List Bool) (place : ℕ) : Type 0 where
  pub before : (i : ℕ) (x : SesItem) → i < place → slice_get xs i ≡ Some x → slice_get gone i ≡ Some false
      → is_same a x ≡ false
