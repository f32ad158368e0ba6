-- What holds of a design's ribs and stubs.
use Rattle.std.specs.Prelude.{◌≡◌, ℕ, ◌<◌, ◌≤◌, List, ◌++◌, map, All, AllPairs, Contains, Result, Ok, Err}
use Rattle.pcb_model.specs.declared.item.Item.{Item}
use Rattle.pcb_model.specs.declared.design.Design.{Design}
use Rattle.pcb_model.specs.declared.limits.TheConstants.{MOST_ITEMS}
use Rattle.pcb_model.specs.Board.{AreInside, IsLaid, IsMade}
use Rattle.pcb_model.specs.Plain.{IsPlainItem}
use Rattle.pcb_model.specs.Sound.{IsCopper}
use Rattle.pcb_islands.specs.declared.net.Island.{Island}
use Rattle.pcb_islands.specs.Islands.{AreIslands}
use Rattle.route_lattice.specs.Mesh.{Mesh}
use Rattle.plane_joins.specs.declared.area.PlaneArea.{PlaneArea}
use Rattle.plane_joins.specs.declared.fault.RibFault.{RibFault}
use Rattle.plane_joins.specs.declared.fault.RibFault.TheVariants.{TooMany, Memory}
use Rattle.plane_joins.specs.Changed.{MayFollow, with_fixed}
use Rattle.plane_joins.specs.Holding.{AgreesIfAdded, HoldAsRibs}
use Rattle.plane_joins.specs.Planes.{load_of}
use Rattle.plane_joins.specs.Ribs.{AreRibs}
use Rattle.plane_joins.specs.Planned.{nets_of, ribbed, tight}
use Rattle.plane_joins.specs.Stubs.{IsServed, RibGround, with_items, loose}

-- the design with its ribs alone, or how many items there would be at most where these are too many
abbrev pub AnswersRibbed : Design → List PlaneArea → Result Design RibFault → Type 0
AnswersRibbed d planes (Ok e) =
    (ribs : List Item) × AreRibs d planes ribs × (e ≡ with_fixed d ribs) × (load_of d planes ≤ MOST_ITEMS)
AnswersRibbed d planes (Err (TooMany count)) = (count ≡ load_of d planes) × (MOST_ITEMS < load_of d planes)
AnswersRibbed d planes (Err (Memory e)) = Unit {0}

-- a routed item by the rules of routed copper: a wire or via that is made of its metal, lies inside every boundary, and
-- is laid as its net wants it
pub record ObeysAsRouted (d : Design) (a : Item) : Type 0 where
  pub copper : IsCopper a.metal
  pub made : IsMade d a
  pub inside : AreInside d.bounds a.pieces
  pub laid : IsLaid d a

-- ribs are ribs of the planes, stubs obey as routed copper; as further fixed items both may stand behind the design's
-- own, are plain, and each pair with one of them agrees
pub record HoldAsPlaned (d : Design) (planes : List PlaneArea) (ribs stubs : List Item) : Type 0 where
  pub are_ribs : HoldAsRibs d planes ribs
  pub obey : All (ObeysAsRouted d) stubs
  pub follow : MayFollow d (ribs ++ map tight stubs)
  pub plain : All IsPlainItem (ribs ++ map tight stubs)
  pub agree : AllPairs (AgreesIfAdded d) (d.fixed ++ (ribs ++ map tight stubs))

-- the copper with all stubs
abbrev pub stubbed : Design → Mesh → ℕ → List Item → List Item → RibGround
stubbed d lat via_cost ribs stubs =
    with_items (ribbed d lat via_cost ribs) ((d.fixed ++ map loose ribs) ++ stubs)

-- an island of a net with a plane that holds no rib has no way to one
abbrev pub LeavesNoStub : Design → Mesh → List PlaneArea → ℕ → List Item → List Item → Type 0
LeavesNoStub d lat planes via_cost ribs stubs =
    (net : ℕ) (found : List Island) → Contains (nets_of d planes) net
    → AreIslands d ((d.fixed ++ map loose ribs) ++ stubs) net found
    → All (IsServed (stubbed d lat via_cost ribs stubs)) found
