-- What makes way for new items on some copper.
use Rattle.std.specs.Prelude.{◌≡◌, ◌⊎◌, ℕ, Bool, List, [], map, Contains, Option, Some, None}
use Rattle.std.specs.List.{AllZip}
use Rattle.geo_kernel.specs.declared.point.Point.{Point}
use Rattle.pcb_model.specs.declared.item.Item.{Item}
use Rattle.pcb_model.specs.declared.design.Design.{Design}
use Rattle.pcb_model.specs.Bounds.{IsItemFit}
use Rattle.route_lattice.specs.Mesh.{Mesh}
use Rattle.ripup.specs.Rips.{AreIdsInWay}
use Rattle.shove.specs.Shoves.{chain_of, reshaped}
use Rattle.board_offers.specs.declared.offer.Shoved.{Shoved}
use Rattle.least_offer.specs.Least.{Fits, FitsFirst, AreShovesOf}
use Rattle.least_offer.specs.Together.{StandTogether}
use Rattle.route_plan.specs.declared.way.Way.{Way}

-- ---- the choice
-- all items in the way are shoved
pub record IsShoveWay (d : Design) (m : Mesh) (items new : List Item) (ids : List ℕ) (way : Way) : Type 0 where
  pub shoves_are : AreShovesOf d m items new ids way.shoves
  pub together : StandTogether d items way.shoves
  pub no_rip : way.rip ≡ []

-- all are ripped, since not all can be shoved, or not together
pub record IsRipWay (d : Design) (m : Mesh) (items new : List Item) (ids : List ℕ) (way : Way) : Type 0 where
  pub rips_are : way.rip ≡ ids
  pub no_shove : way.shoves ≡ []
  pub not_together : (shoves : List Shoved) → AreShovesOf d m items new ids shoves → ¬ (StandTogether d items shoves)

pub record MakesWayOn (d : Design) (m : Mesh) (items new : List Item) (way : Way) : Type 0 where
  pub ids : List ℕ
  pub in_way : AreIdsInWay d items new ids
  pub chosen : IsShoveWay d m items new ids way ⊎ IsRipWay d m items new ids way

-- ---- what the private functions give
-- the shove that a moved wire stands for
abbrev pub shove_of : Item → Shoved
shove_of a = record { id = a.id; chain = chain_of a.metal }

-- an item of the copper with another chain, and its numbers are within the bounds
pub record IsReshaped (d : Design) (items : List Item) (moved : Item) : Type 0 where
  pub item : Item
  pub there : Contains items item
  pub moved_is : moved ≡ reshaped d item.id (chain_of moved.metal) item
  pub fits : IsItemFit moved

-- the wire with run r moved up or down, which fits
pub record IsFitting (d : Design) (m : Mesh) (items new : List Item) (a : Item) (r : ℕ) (up : Bool) (moved : Item) :
    Type 0 where
  pub fits : Fits d m items new a r up (chain_of moved.metal)
  pub moved_is : moved ≡ reshaped d a.id (chain_of moved.metal) a
  pub sized : IsItemFit moved

-- such a wire, or none where that run doesn't fit so
abbrev pub FindsFit : Design → Mesh → List Item → List Item → Item → ℕ → Bool → Option Item → Type 0
FindsFit d m items new a r up (Some moved) = IsFitting d m items new a r up moved
FindsFit d m items new a r up None = (chain : List Point) → ¬ (Fits d m items new a r up chain)

-- the wire moved to its first fit
pub record IsFirstFitting (d : Design) (m : Mesh) (items new : List Item) (a moved : Item) : Type 0 where
  pub first : FitsFirst d m items new a (chain_of moved.metal)
  pub moved_is : moved ≡ reshaped d a.id (chain_of moved.metal) a
  pub sized : IsItemFit moved

-- such a wire, or none where no run fits
abbrev pub FindsFirst : Design → Mesh → List Item → List Item → Item → Option Item → Type 0
FindsFirst d m items new a (Some moved) = IsFirstFitting d m items new a moved
FindsFirst d m items new a None = (r : ℕ) (up : Bool) (chain : List Point) → ¬ (Fits d m items new a r up chain)

-- the item with this id moved to its first fit
pub record IsMoved (d : Design) (m : Mesh) (items new : List Item) (id : ℕ) (moved : Item) : Type 0 where
  pub item : Item
  pub there : Contains items item
  pub item_is : item.id ≡ id
  pub fitting : IsFirstFitting d m items new item moved

-- each of the ids has its moved item, in order, and these stand together
pub record AreMoved (d : Design) (m : Mesh) (items new : List Item) (ids : List ℕ) (moved : List Item) : Type 0 where
  pub each : AllZip (IsMoved d m items new) ids moved
  pub together : StandTogether d items (map shove_of moved)

-- such items, or none where no shoves of the ids stand together
abbrev pub MovesAll : Design → Mesh → List Item → List Item → List ℕ → Option (List Item) → Type 0
MovesAll d m items new ids (Some moved) = AreMoved d m items new ids moved
MovesAll d m items new ids None = (shoves : List Shoved) → AreShovesOf d m items new ids shoves
    → ¬ (StandTogether d items shoves)
