-- What a plan answers on a snapshot of a board.
use Rattle.std.specs.Prelude.{◌≡◌, ℕ, ◌<◌, ◌≤◌, ◌^◌, List, ◌∷◌, length, IfSome, Option, Some, None, slice_get}
use Rattle.std.specs.Prelude.{remove}
use Rattle.pcb_model.specs.declared.item.Item.{Item}
use Rattle.pcb_model.specs.declared.design.Design.{Design}
use Rattle.pcb_model.specs.Plain.{IsPlainCopper}
use Rattle.pcb_model.specs.Sound.{IsSound, Serves}
use Rattle.pcb_islands.specs.declared.net.Island.{Island}
use Rattle.pcb_islands.specs.Islands.{AreIslands}
use Rattle.route_lattice.specs.Mesh.{Mesh}
use Rattle.route_lattice.specs.Fits.{FitsDesign}
use Rattle.route_lattice.specs.Walks.{MoveGraph, NoneLeads, IsReach}
use Rattle.route_lattice.specs.Legal.{legal_graph}
use Rattle.cut_certificate.specs.Cuts.{AreStarts, AreGoals}
use Rattle.ripup.specs.Rips.{rip_graph}
use Rattle.board_offers.specs.declared.offer.Offer.{Offer}
use Rattle.pcb_board.specs.Boards.{BoardOf, SnapOf}
use Rattle.pcb_board.specs.Keeping.{IsBoard}
use Rattle.pcb_board.specs.Answers.{snap_of}
use Rattle.route_plan.specs.declared.plans.FromIsland.{FromIsland}
use Rattle.route_plan.specs.declared.plans.FromIsland.TheVariants as from_island
use Rattle.route_plan.specs.declared.plans.Planned.{Planned}
use Rattle.route_plan.specs.declared.plans.Planned.TheVariants as planned
use Rattle.wave_search.specs.Stated.{IsStated}
use Rattle.least_offer.specs.Least.{IsLeastOffer, JoinsLeast, MayBeMade, TakesNothing, walks_of}
use Rattle.board_offers.specs.declared.offer.TheConstants.{CLOSER}
use Rattle.route_plan.specs.Planners.{PlannerOf}

-- the snapshot is one of a board of a sound design of plain copper
pub record IsSnapOf (s : SnapOf) (b : BoardOf) : Type 0 where
  pub board : IsBoard b
  pub is : snap_of b ≡ s
  pub plain : IsPlainCopper b.design

-- what a plan of a net asks: a sound design of plain copper, a lattice of it, a snapshot of one of its boards, a
-- price of a via, and a penalty
pub record CanPlan (d : Design) (m : Mesh) (s : SnapOf) (net via_cost : ℕ) (penalty : Option ℕ) : Type 0 where
  pub sound : IsSound d
  pub plain : IsPlainCopper d
  pub fits : FitsDesign d m
  pub own : s.design ≡ d
  pub serves : Serves s.items d
  pub net_there : net < length d.nets
  pub small_cost : via_cost ≤ 2 ^ 30
  pub small_penalty : IfSome penalty (λ p. p ≤ 2 ^ 30)

-- the moves of a net: the legal ones, or with a penalty those that pass routed items
abbrev pub moves_of : Design → Mesh → List Item → ℕ → ℕ → Option ℕ → MoveGraph
moves_of d m items net via_cost None = legal_graph d m items net via_cost
moves_of d m items net via_cost (Some penalty) = rip_graph d m items net via_cost penalty

-- no walk leads from the island to one of the others, and the nodes are all that moves reach from its legal anchors
pub record IsShutFrom (d : Design) (m : Mesh) (items : List Item) (net via_cost : ℕ) (penalty : Option ℕ)
    (island : Island) (others : List Island) (nodes : List ℕ) : Type 0 where
  pub starts : List ℕ
  pub starts_are : AreStarts d m items island starts
  pub goals : List ℕ
  pub goals_are : AreGoals d m items others goals
  pub none : NoneLeads (moves_of d m items net via_cost penalty) starts goals
  pub reach : IsReach (moves_of d m items net via_cost penalty) starts nodes

-- the net has several islands, and the first one is shut so
pub record IsShutIn (d : Design) (m : Mesh) (items : List Item) (net via_cost : ℕ) (penalty : Option ℕ)
    (nodes : List ℕ) : Type 0 where
  pub island : Island
  pub others : List Island
  pub islands : AreIslands d items net (island ∷ others)
  pub several : 0 < length others
  pub shut : IsShutFrom d m items net via_cost penalty island others nodes

-- the net has at most one island
pub record IsWhole (d : Design) (items : List Item) (net : ℕ) : Type 0 where
  pub found : List Island
  pub islands : AreIslands d items net found
  pub few : length found ≤ 1

-- a least offer of the worker for the net with the penalty, which rests on the board as it is and may be made
pub record IsOfferOf (m : Mesh) (via_cost : ℕ) (b : BoardOf) (worker net : ℕ) (penalty : Option ℕ)
    (o : Offer) : Type 0 where
  pub base_is : o.base ≡ length b.history
  pub worker_is : o.worker ≡ worker
  pub net_is : o.net ≡ net
  pub penalty_is : o.penalty ≡ penalty
  pub least : IsLeastOffer m via_cost b o
  pub may : MayBeMade b o

-- the plan of a net by any worker, that of the closing pass included: such an offer from the first island to another,
-- which takes nothing out without a penalty
pub record IsPlanOf (m : Mesh) (via_cost : ℕ) (b : BoardOf) (worker net : ℕ) (penalty : Option ℕ)
    (o : Offer) : Type 0 where
  pub offer : IsOfferOf m via_cost b worker net penalty o
  pub first : Island
  pub others : List Island
  pub islands : AreIslands b.design b.items net (first ∷ others)
  pub joins : JoinsLeast m via_cost b o first others
  pub takes : penalty ≡ None → TakesNothing o

-- the island stands at this place among those of the net, and the others are the rest of them
pub record StandsAt (d : Design) (items : List Item) (net place : ℕ) (island : Island)
    (others : List Island) : Type 0 where
  pub found : List Island
  pub islands : AreIslands d items net found
  pub island_is : slice_get found place ≡ Some island
  pub others_are : others ≡ remove found place

-- a least offer from the island to one of the others that may be made, and without a penalty takes nothing out; or no
-- walk leads so, and these are all nodes that moves reach from the island's legal anchors
abbrev pub LeadsFrom : Mesh → ℕ → BoardOf → ℕ → Option ℕ → Island → List Island → FromIsland → Type 0
LeadsFrom m via_cost b worker penalty island others (from_island.Offer o) =
    IsOfferOf m via_cost b worker island.net penalty o × (penalty ≡ None → TakesNothing o)
    × JoinsLeast m via_cost b o island others
LeadsFrom m via_cost b worker penalty island others (from_island.Shut reach) =
    IsShutFrom b.design m b.items island.net via_cost penalty island others reach.nodes

-- an offer without a penalty that takes nothing out, may be made, and lays the stated walk from the island to one of
-- the others
pub record IsStatedOffer (m : Mesh) (via_cost : ℕ) (b : BoardOf) (worker : ℕ) (island : Island) (others : List Island)
    (o : Offer) : Type 0 where
  pub offer : IsOfferOf m via_cost b worker island.net None o
  pub takes : TakesNothing o
  pub joins : JoinsLeast m via_cost b o island others
  pub stated : IsStated (walks_of m via_cost b o o.penalty) joins.starts joins.goals joins.walk

-- such an offer, or no legal walk leads so
abbrev pub StatesFrom : Mesh → ℕ → BoardOf → ℕ → Island → List Island → FromIsland → Type 0
StatesFrom m via_cost b worker island others (from_island.Offer o) =
    IsStatedOffer m via_cost b worker island others o
StatesFrom m via_cost b worker island others (from_island.Shut reach) =
    IsShutFrom b.design m b.items island.net via_cost None island others reach.nodes

-- the plan of a net on a board
abbrev pub Plans : Mesh → ℕ → BoardOf → ℕ → ℕ → Option ℕ → Planned → Type 0
Plans m via_cost b worker net penalty (planned.Offer o) = IsPlanOf m via_cost b worker net penalty o
Plans m via_cost b worker net penalty
    (planned.Shut reach) = IsShutIn b.design m b.items net via_cost penalty reach.nodes
Plans m via_cost b worker net penalty planned.Whole = IsWhole b.design b.items net

-- ---- what a planner answers, on each board of its snapshot
-- the plan of a net
abbrev pub PlansNet : PlannerOf → ℕ → Option ℕ → Planned → Type 0
PlansNet p net penalty answer = (b : BoardOf) → IsSnapOf p.snap b
    → Plans p.lat p.via_cost b p.worker net penalty answer

-- where an island leads, which for a worker's offer is the first of its net
abbrev pub LeadsOut : PlannerOf → Option ℕ → Island → List Island → FromIsland → Type 0
LeadsOut p penalty island others answer = (b : BoardOf) (place : ℕ) → IsSnapOf p.snap b
    → StandsAt b.design b.items island.net place island others → (p.worker < CLOSER → place ≡ 0)
    → LeadsFrom p.lat p.via_cost b p.worker penalty island others answer

-- and where it leads by the stated walk
abbrev pub StatesOut : PlannerOf → Island → List Island → FromIsland → Type 0
StatesOut p island others answer = (b : BoardOf) (place : ℕ) → IsSnapOf p.snap b
    → StandsAt b.design b.items island.net place island others → (p.worker < CLOSER → place ≡ 0)
    → StatesFrom p.lat p.via_cost b p.worker island others answer
