-- Shoves that stand together.
use Rattle.std.specs.Prelude.{◌≡◌, List, AllPairs, Contains}
use Rattle.pcb_model.specs.declared.item.Item.{Item}
use Rattle.pcb_model.specs.declared.design.Design.{Design}
use Rattle.pcb_model.specs.Pairs.{Agrees, AreTouching}
use Rattle.shove.specs.Shoves.{reshaped}
use Rattle.board_offers.specs.declared.offer.Shoved.{Shoved}

-- two shoved items agree, and touch if they touched before
pub record StandsWith (d : Design) (items : List Item) (s t : Shoved) : Type 0 where
  pub agree : (a c : Item) → Contains items a → Contains items c → a.id ≡ s.id → c.id ≡ t.id
      → Agrees d (reshaped d a.id s.chain a) (reshaped d c.id t.chain c)
  pub touch : (a c : Item) → Contains items a → Contains items c → a.id ≡ s.id → c.id ≡ t.id → AreTouching a c
      → AreTouching (reshaped d a.id s.chain a) (reshaped d c.id t.chain c)

-- so do each two of them
abbrev pub StandTogether : Design → List Item → List Shoved → Type 0
StandTogether d items shoves = AllPairs (StandsWith d items) shoves
