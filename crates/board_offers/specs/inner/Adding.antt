-- What private functions that judge an offer give: clauses in terms of the added items.
use Rattle.std.specs.Prelude.{◌≡◌, ◌≢◌, ℕ, ◌≤◌, ◌^◌, List, [], ◌∷◌, ◌++◌, length, All, Any, Some, slice_get}
use Rattle.std.specs.Option.{IsSomeAnd}
use Rattle.geo_kernel.specs.Plane.{IsWithin}
use Rattle.pcb_model.specs.declared.item.Item.{Item}
use Rattle.pcb_model.specs.declared.design.Design.{Design}
use Rattle.pcb_model.specs.Pieces.{pieces_of}
use Rattle.pcb_model.specs.Pairs.{Agrees}
use Rattle.pcb_model.specs.Board.{AreInside, IsRouted, LeadsTo}
use Rattle.board_offers.specs.declared.offer.Shoved.{Shoved}
use Rattle.board_offers.specs.Items.{with_chain}
use Rattle.board_offers.specs.Offers.{IsWire}

-- the last of an item and those that follow it
abbrev pub last_item : Item → List Item → Item
last_item a [] = a
last_item a (b ∷ items) = last_item b items

-- from the item of one id the chain leads to that of the other
pub record LeadsBetween (given : List Item) (from : ℕ) (chain : List Item) (to : ℕ) : Type 0 where
  pub first : Item
  pub first_is : slice_get given from ≡ Some first
  pub last : Item
  pub last_is : slice_get given to ≡ Some last
  pub leads : LeadsTo first (chain ++ last ∷ []) last

-- a routed item that isn't of the net and disagrees with one of the items
pub record IsInTheWayOf (d : Design) (net : ℕ) (items : List Item) (a : Item) : Type 0 where
  pub routed : IsRouted a
  pub other_net : a.net ≢ Some net
  pub disagrees : Any (λ (n : Item). Agrees d n a → ⊥) items

-- a wire in the way, and a chain inside every boundary for it
pub record IsShovableOf (d : Design) (net : ℕ) (items : List Item) (s : Shoved) (a : Item) : Type 0 where
  pub in_the_way : IsInTheWayOf d net items a
  pub wire : IsWire a.metal
  pub points : 2 ≤ length s.chain
  pub within : All (IsWithin (2 ^ 29)) s.chain
  pub inside : AreInside d.bounds (pieces_of d (with_chain s.chain a.metal))

-- the shove's id was given to such a wire
abbrev pub MayShove : Design → List Item → ℕ → List Item → Shoved → Type 0
MayShove d given net items s = IsSomeAnd (slice_get given s.id) (IsShovableOf d net items s)
