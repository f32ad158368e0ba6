-- Planners: what all searches on one snapshot share.
use Rattle.std.specs.Prelude.{ℕ, ◌≤◌, ◌<◌, ◌^◌, Option, IfSome, length}
use Rattle.pcb_model.specs.Plain.{IsPlainCopper}
use Rattle.pcb_model.specs.Sound.{IsSound, Serves}
use Rattle.route_lattice.specs.Mesh.{Mesh}
use Rattle.route_lattice.specs.Fits.{FitsDesign}
use Rattle.route_lattice.specs.declared.moves.Moves.{Ghosts}
use Rattle.route_lattice.specs.Walks.{MoveGraph}
use Rattle.cut_certificate.specs.Same.{SameMoves}
use Rattle.pcb_board.specs.Boards.{SnapOf}
use Rattle.board_offers.specs.declared.offer.TheConstants.{CLOSER}

-- what a planner is to a caller: the lattice, the snapshot, the price of a via in nm, and the worker that offers
pub record PlannerOf : Type 0 where
  pub lat : Mesh
  pub snap : SnapOf
  pub via_cost : ℕ
  pub worker : ℕ

-- what it stands on: a sound design of plain copper, a lattice of it, a snapshot of one of its boards, a small price,
-- and a worker, that of the closing pass included
pub record CanSearch (m : Mesh) (s : SnapOf) (via_cost worker : ℕ) : Type 0 where
  pub sound : IsSound s.design
  pub plain : IsPlainCopper s.design
  pub fits : FitsDesign s.design m
  pub serves : Serves s.items s.design
  pub small_cost : via_cost ≤ 2 ^ 30
  pub closer : worker ≤ CLOSER

-- what it is asked: one of the design's nets, and a penalty
pub record CanAsk (p : PlannerOf) (net : ℕ) (penalty : Option ℕ) : Type 0 where
  pub net_there : net < length p.snap.design.nets
  pub small_penalty : IfSome penalty (λ q. q ≤ 2 ^ 30)

abbrev pub planner_of : Mesh → SnapOf → ℕ → ℕ → PlannerOf
planner_of m s via_cost worker = record { lat = m; snap = s; via_cost = via_cost; worker = worker }

-- the plan of a net: the planner's, the net, and a penalty
pub record NetPlanOf : Type 0 where
  pub by : PlannerOf
  pub net : ℕ
  pub penalty : Option ℕ

-- the moves may be asked for, and are those of the graph
pub record AreMovesOf {X : Type 0} (moves : Ghosts X) (x : X) (graph : MoveGraph) : Type 0 where
  pub ready : moves.ready x
  pub same : SameMoves (moves.graph x) graph
