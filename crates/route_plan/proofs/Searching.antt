-- The moves of a plan may be searched, and boxes around goals bound what is left of a walk.
use Rattle.std.proofs.Common.{◌≡◌, ℕ, List, Option, Some, None, refl}
use Rattle.geo_kernel.specs.declared.point.Rect4.{Rect4}
use Rattle.pcb_model.specs.declared.item.Item.{Item}
use Rattle.pcb_model.specs.declared.design.Design.{Design}
use Rattle.route_lattice.specs.Mesh.{Mesh, node_count}
use Rattle.route_lattice.specs.Walks.{IsSound}
use Rattle.route_lattice.specs.Legal.{CanMove, legal_graph}
use Rattle.wave_search.specs.Around.{AreAround, low_at}
use Rattle.wave_search.specs.Bounds.{IsBound}
use Rattle.cut_certificate.specs.Backwards.{HasMoveTo, IsMutual}
use Rattle.ripup.specs.Rips.{CanRip, rip_graph}
use Rattle.route_plan.specs.Plans.{moves_of}
use Rattle.route_plan.specs.Searches.{CanWalk}

-- what the laws on legal moves and on those past routed items say
abbrev pub LegalSound : Type 0
LegalSound = (d : Design) (m : Mesh) (items : List Item) (net via_cost : ℕ) → CanMove d m net via_cost
    → IsSound (legal_graph d m items net via_cost)

abbrev pub RipSound : Type 0
RipSound = (d : Design) (m : Mesh) (items : List Item) (net via_cost penalty : ℕ) → CanRip d m net via_cost penalty
    → IsSound (rip_graph d m items net via_cost penalty)

abbrev pub LegalBound : Type 0
LegalBound = (d : Design) (m : Mesh) (items : List Item) (net via_cost : ℕ) (goals : List ℕ) (boxes : List Rect4)
    → CanMove d m net via_cost → AreAround m goals boxes
    → IsBound (legal_graph d m items net via_cost) goals (low_at m boxes)

abbrev pub RipBound : Type 0
RipBound = (d : Design) (m : Mesh) (items : List Item) (net via_cost penalty : ℕ) (goals : List ℕ) (boxes : List Rect4)
    → CanRip d m net via_cost penalty → AreAround m goals boxes
    → IsBound (rip_graph d m items net via_cost penalty) goals (low_at m boxes)

abbrev pub LegalBack : Type 0
LegalBack = (d : Design) (m : Mesh) (items : List Item) (net via_cost : ℕ)
    → IsMutual (legal_graph d m items net via_cost)

-- moves past routed items lead where legal ones do
rip_back : (d : Design) (m : Mesh) (items : List Item) (net via_cost penalty : ℕ)
    → IsMutual (legal_graph d m items net via_cost) → IsMutual (rip_graph d m items net via_cost penalty)
rip_back d m items net via_cost penalty back node i move to h k e =
    let way : HasMoveTo (legal_graph d m items net via_cost) to node = back node i move to h k e in
    record { index = way.index; move = way.move; listed = way.listed; leads = way.leads }

module _ (d : Design) (m : Mesh) (items : List Item) (net via_cost : ℕ) where
  -- where one leads, one leads back
  pub moves_back : (q : Option ℕ) → LegalBack → IsMutual (moves_of d m items net via_cost q)
  moves_back None legal = legal d m items net via_cost
  moves_back (Some p) legal = rip_back d m items net via_cost p (legal d m items net via_cost)

  -- the moves are between the nodes of the lattice
  pub count_is : (q : Option ℕ) → (moves_of d m items net via_cost q).count ≡ node_count m
  count_is None = refl
  count_is (Some p) = refl

  can_rip : (p : ℕ) → CanWalk d m net via_cost (Some p) → CanRip d m net via_cost p
  can_rip p can = record { can_move = can.move; small_penalty = can.small_penalty }

  -- they are such as a search asks for
  pub moves_sound : (q : Option ℕ) → CanWalk d m net via_cost q → LegalSound → RipSound
      → IsSound (moves_of d m items net via_cost q)
  moves_sound None can legal rip = legal d m items net via_cost can.move
  moves_sound (Some p) can legal rip = rip d m items net via_cost p (can_rip p can)

  -- the way to the nearest of boxes around the goals is a bound
  pub moves_bound : (q : Option ℕ) (goals : List ℕ) (boxes : List Rect4) → CanWalk d m net via_cost q → LegalBound
      → RipBound → AreAround m goals boxes → IsBound (moves_of d m items net via_cost q) goals (low_at m boxes)
  moves_bound None goals boxes can legal rip around = legal d m items net via_cost goals boxes can.move around
  moves_bound (Some p) goals boxes can legal rip around =
      rip d m items net via_cost p goals boxes (can_rip p can) around
