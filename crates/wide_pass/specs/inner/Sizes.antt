-- How much moves at 45 degrees reach from islands that have cuts.
use Rattle.std.specs.Prelude.{◌≡◌, ℕ, ◌<◌, Bool, true, false, List, ◌++◌, length, remove, slice_get, Option, Some, None}
use Rattle.std.specs.List.{AllZip}
use Rattle.pcb_model.specs.declared.item.Item.{Item}
use Rattle.pcb_model.specs.declared.design.Design.{Design}
use Rattle.pcb_model.specs.Sound.{Serves}
use Rattle.pcb_islands.specs.declared.net.Island.{Island}
use Rattle.pcb_islands.specs.Islands.{AreIslands}
use Rattle.route_lattice.specs.Mesh.{Mesh}
use Rattle.route_lattice.specs.Legal.{CanMove}
use Rattle.cut_certificate.specs.declared.cut.Cut.{Cut}
use Rattle.cut_certificate.specs.Cuts.{Cuts}
use Rattle.pcb_board.specs.Boards.{SnapOf}
use Rattle.wide_offer.specs.Leading.{LeadsWide}
use Rattle.wide_pass.specs.Rounds.{IsWideReach, IsWideSize}

-- moves of the net may be asked for on the snapshot
pub record CanReach (m : Mesh) (via_cost : ℕ) (s : SnapOf) (net : ℕ) : Type 0 where
  pub can_move : CanMove s.design m net via_cost
  pub serves : Serves s.items s.design

-- the island is of the net, and has this cut
pub record HasNodes (d : Design) (m : Mesh) (via_cost : ℕ) (items : List Item) (net : ℕ) (island : Island)
    (others : List Island) (cut : Cut) : Type 0 where
  pub net_is : island.net ≡ net
  pub cuts : Cuts d m items via_cost island others (Some cut)

-- so many nodes are reached from it, and no anchor of another
pub record IsReachedSize (d : Design) (m : Mesh) (via_cost : ℕ) (items : List Item) (island : Island)
    (others : List Island) (size : ℕ) : Type 0 where
  pub nodes : List ℕ
  pub reached : IsWideReach d m items via_cost island others nodes
  pub size_is : size ≡ length nodes

-- or moves lead on
abbrev pub LooksAt : Design → Mesh → ℕ → List Item → Island → List Island → Option ℕ → Type 0
LooksAt d m via_cost items island others (Some size) = IsReachedSize d m via_cost items island others size
LooksAt d m via_cost items island others None = LeadsWide d m items via_cost island others

-- moves at 45 degrees lead from an island of the net to another
pub record IsWideOpen (d : Design) (m : Mesh) (via_cost : ℕ) (items : List Item) (net : ℕ) : Type 0 where
  pub found : List Island
  pub islands : AreIslands d items net found
  pub place : ℕ
  pub island : Island
  pub island_is : slice_get found place ≡ Some island
  pub leads : LeadsWide d m items via_cost island (remove found place)

-- the island at the place among those of the cut's net has this cut
pub record HasCutAt (m : Mesh) (via_cost : ℕ) (s : SnapOf) (found : List Island) (place : ℕ) (cut : Cut) : Type 0 where
  pub can : CanReach m via_cost s cut.net
  pub islands : AreIslands s.design s.items cut.net found
  pub there : place < length found
  pub cuts : (island : Island) → slice_get found place ≡ Some island
      → Cuts s.design m s.items via_cost island (remove found place) (Some cut)

-- the size of what is reached from it, or moves lead on
abbrev pub LooksAtPlace : Mesh → ℕ → SnapOf → Cut → Option ℕ → Type 0
LooksAtPlace m via_cost s cut (Some size) = IsWideSize s.design m s.items via_cost cut size
LooksAtPlace m via_cost s cut None = IsWideOpen s.design m via_cost s.items cut.net

-- the sizes for the cuts stand behind the old ones
pub record AddsSizes (m : Mesh) (via_cost : ℕ) (s : SnapOf) (cuts : List Cut) (old new : List ℕ) : Type 0 where
  pub own : List ℕ
  pub new_is : new ≡ old ++ own
  pub sizes : AllZip (IsWideSize s.design m s.items via_cost) cuts own

-- so it is; or moves lead from an island of the net to another
abbrev pub Looks : Mesh → ℕ → SnapOf → ℕ → List Cut → List ℕ → List ℕ → Bool → Type 0
Looks m via_cost s net cuts old new true = IsWideOpen s.design m via_cost s.items net
Looks m via_cost s net cuts old new false = AddsSizes m via_cost s cuts old new
