-- Copper of a design's fixed items and one routed item.
use Rattle.std.specs.Prelude.{◌≡◌, ◌++◌, ◌∷◌, [], List}
use Rattle.pcb_model.specs.declared.item.Item.{Item}
use Rattle.pcb_model.specs.declared.design.Design.{Design}
use Rattle.pcb_model.specs.Sound.{IsItemOf, Serves}

-- the items are those fixed and a, and serve the design
pub record IsLaidOn (d : Design) (a : Item) (items : List Item) : Type 0 where
  pub of_design : IsItemOf d a
  pub serves : Serves items d
  pub items_are : items ≡ d.fixed ++ a ∷ []
