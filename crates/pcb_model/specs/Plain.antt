-- Plain copper: each piece of what has a net is a chain, or an area of one loop. Of such copper, what covers one point
-- touches.
use Rattle.std.specs.Prelude.{◌≡◌, ℕ, List, All, Some}
use Rattle.geo_kernel.specs.Solid.{IsSimple}
use Rattle.pcb_model.specs.declared.item.Piece.{Piece}
use Rattle.pcb_model.specs.declared.item.Item.{Item}
use Rattle.pcb_model.specs.declared.design.Padstack.{Padstack}
use Rattle.pcb_model.specs.declared.design.Design.{Design}

-- a chain, or an area of one loop
abbrev pub IsPlain : Piece → Type 0
IsPlain q = IsSimple q.spine

abbrev pub ArePlain : List Piece → Type 0
ArePlain ps = All IsPlain ps

-- if the item has a net, its pieces are plain
pub record IsPlainItem (a : Item) : Type 0 where
  pub plain : (net : ℕ) → a.net ≡ Some net → ArePlain a.pieces

-- so are the fixed items, and all pieces of the padstacks are
pub record IsPlainCopper (d : Design) : Type 0 where
  pub padstacks : All (λ (s : Padstack). ArePlain s.pieces) d.padstacks
  pub fixed : All IsPlainItem d.fixed
