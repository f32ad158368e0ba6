-- Items that were ever given an id.
use Rattle.std.specs.Prelude.{◌≡◌, ℕ, List, Some, slice_get}
use Rattle.pcb_model.specs.declared.item.Item.{Item}
use Rattle.pcb_model.specs.declared.design.Design.{Design}
use Rattle.pcb_model.specs.Board.{IsRouted, IsMade}
use Rattle.pcb_model.specs.Sound.{IsItemOf}

-- the item has this id, fits the design, and is made of its metal where it is routed
pub record IsGiven (d : Design) (x : ℕ) (a : Item) : Type 0 where
  pub numbered : a.id ≡ x
  pub fits : IsItemOf d a
  pub made : IsRouted a → IsMade d a

-- each item is so, with its place as id
abbrev pub AreGiven : Design → List Item → Type 0
AreGiven d items = (x : ℕ) (a : Item) → slice_get items x ≡ Some a → IsGiven d x a
