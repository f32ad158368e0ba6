-- A design and copper that serves it.
use Rattle.std.specs.Prelude.{List}
use Rattle.pcb_model.specs.declared.item.Item.{Item}
use Rattle.pcb_model.specs.declared.copper.Copper.{Ghosts}
use Rattle.pcb_model.specs.declared.design.Design.{Design}
use Rattle.pcb_model.specs.Sound.{IsSound}

-- what they are to a caller
pub record ServedOf : Type 0 where
  pub d : Design
  pub items : List Item

-- the design is sound, and the copper serves it
pub record IsServed {C : Type 0} (copper : Ghosts C) (d : Design) (c : C) : Type 0 where
  pub sound : IsSound d
  pub serves : copper.serves c d
