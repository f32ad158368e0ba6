-- What the private searches for trouble answer, one by one. No public contract cites this.
use Rattle.std.specs.Prelude.{◌≡◌, ◌≢◌, ℕ, ◌<◌, ◌==◌, nat_le, true, false, if◌then◌else◌, List, All, Contains, Option}
use Rattle.std.specs.Prelude.{Some, None, slice_get, slice_index_or}
use Rattle.std.specs.List.{position_or_len}
use Rattle.pcb_model.specs.declared.item.Item.{Item}
use Rattle.pcb_model.specs.declared.design.Design.{Design}
use Rattle.pcb_model.specs.Pairs.{Agrees, AreTouching}
use Rattle.board_offers.specs.declared.offer.Shoved.{Shoved}
use Rattle.board_offers.specs.Items.{names, is_on}

-- the lesser of two numbers, as far as they are there
abbrev pub least_of : Option ℕ → Option ℕ → Option ℕ
least_of None y = y
least_of (Some x) None = Some x
least_of (Some x) (Some y) = if nat_le x y then Some x else Some y

-- ---- what is missing
abbrev pub IsNamedThere : List Item → List ℕ → ℕ → Type 0
IsNamedThere items ids x = names ids x ≡ true → is_on x items ≡ true

-- ---- what disagrees
-- the item with the id x agrees with n, unless x is named
abbrev pub AgreesUnless : Design → List Item → List ℕ → Item → ℕ → Type 0
AgreesUnless d items ids n x = (a : Item) → Contains items a → a.id ≡ x → names ids x ≡ false → Agrees d n a

abbrev pub AgreesWithAll : Design → List Item → List ℕ → List Item → ℕ → Type 0
AgreesWithAll d items ids new x =
    (a : Item) → Contains items a → a.id ≡ x → names ids x ≡ false → All (λ (n : Item). Agrees d n a) new

-- each item with an id below `from` agrees with n, unless it is named
pub record ArePassed (d : Design) (items : List Item) (ids : List ℕ) (n : Item) (from : ℕ) : Type 0 where
  pub each : (a : Item) → Contains items a → a.id < from → names ids a.id ≡ false → Agrees d n a

-- ---- what is parted
-- an item as it lies after the shoves, where their replacements are given in order
abbrev pub lies_after : List Shoved → List Item → Item → Item
lies_after shoves replaced a = slice_index_or replaced (position_or_len (λ (s : Shoved). s.id == a.id) shoves) a

-- a shoved item and the one with the id x touch after the shoves
pub record TouchesAfter (shoves : List Shoved) (replaced items : List Item) (old : Item) (x : ℕ) : Type 0 where
  pub each : (a : Item) → Contains items a → a.id ≡ x
      → AreTouching (lies_after shoves replaced old) (lies_after shoves replaced a)

-- the item with the id x, if it is another and touched a shoved one, touches it after the shoves too
abbrev pub StaysBy : List Shoved → List Item → List Item → Item → ℕ → Type 0
StaysBy shoves replaced items old x =
    (a : Item) → Contains items a → a.id ≡ x → old.id ≢ x → AreTouching old a
    → AreTouching (lies_after shoves replaced old) (lies_after shoves replaced a)

-- the same for the items with an id below `from`
pub record StayBy (shoves : List Shoved) (replaced items : List Item) (old : Item) (from : ℕ) : Type 0 where
  pub each : (a : Item) → Contains items a → a.id < from → old.id ≢ a.id → AreTouching old a
      → AreTouching (lies_after shoves replaced old) (lies_after shoves replaced a)

-- the same for the item that was given an id
abbrev pub StaysWith : List Item → List Shoved → List Item → List Item → ℕ → ℕ → Type 0
StaysWith given shoves replaced items id x =
    (a : Item) → Contains items a → a.id ≡ x → id ≢ x → (old : Item) → slice_get given id ≡ Some old → AreTouching old a
    → AreTouching (lies_after shoves replaced old) (lies_after shoves replaced a)

-- the same for the items that were given the ids of some shoves
abbrev pub StaysWithAll : List Item → List Shoved → List Item → List Item → List Shoved → ℕ → Type 0
StaysWithAll given shoves replaced items some x =
    (a : Item) → Contains items a → a.id ≡ x → (s : Shoved) → Contains some s → s.id ≢ x
    → (old : Item) → slice_get given s.id ≡ Some old → AreTouching old a
    → AreTouching (lies_after shoves replaced old) (lies_after shoves replaced a)
