-- What a search finds for a net's plan, and whether a walk leads on.
use Rattle.std.proofs.Common.{◌≡◌, ◌<◌, ℕ, Bool, true, false, List, Option, None, Result, Ok, Err, sym, subst, All}
use Rattle.std.specs.Prelude.{IfOk}
use Rattle.std.specs.Bool.{OnFalse}
use Rattle.pcb_model.specs.declared.design.Design.{Design}
use Rattle.pcb_islands.specs.declared.net.Island.{Island}
use Rattle.route_lattice.specs.declared.moves.Reach.{Reach}
use Rattle.route_lattice.specs.declared.moves.Walk.{Walk}
use Rattle.route_lattice.specs.Mesh.{Mesh, node_count}
use Rattle.route_lattice.specs.Ground.{ground_of}
use Rattle.route_lattice.specs.Walks.{MoveGraph, IsLeastWalk, NoneLeads}
use Rattle.wave_search.specs.Stated.{IsStated}
use Rattle.wave_search.proofs.Single.{are_least}
use Rattle.cut_certificate.specs.Cuts.{AreStarts, AreGoals}
use Rattle.cut_certificate.specs.Same.{SameMoves}
use Rattle.cut_certificate.proofs.Same.{flipped, leads_same}
use Rattle.cut_certificate.proofs.Making.{starts_in_lattice}
use Rattle.pcb_board.specs.Boards.{SnapOf}
use Rattle.route_plan.specs.declared.route.Route.{Route}
use Rattle.route_plan.specs.declared.route.Routed.{Routed}
use Rattle.route_plan.specs.declared.route.Routed.TheVariants as routed
use Rattle.route_plan.specs.Planners.{NetPlanOf, planner_of}
use Rattle.route_plan.specs.Searches.{NetSearchOf}
use Rattle.route_plan.specs.Routes.{Finds, FindsRoute, FindsStated, IsLed, IsRoute, IsRouteOf, IsStatedRoute}
use Rattle.route_plan.specs.Routes.{walks_of}
use Rattle.route_plan.specs.inner.RouteOffers.{search_of}
use Rattle.route_plan.proofs.Planning.{IsRouteStated}

-- ---- a plan's search
-- what a plan's search finds on its snapshot
pub found_there : (d : Design) (m : Mesh) (snap : SnapOf) (net via_cost worker : ℕ) (penalty : Option ℕ) (p : NetPlanOf)
    (island : Island) (others : List Island) (task : NetSearchOf) (f : Routed) (route : Route) → snap.design ≡ d
    → (record { by = planner_of m snap via_cost worker; net = net; penalty = penalty }) ≡ p
    → task ≡ search_of p island others → f ≡ routed.Route route → FindsRoute task f
    → IsRoute d m snap.items island.net via_cost penalty island others route
found_there d m snap net via_cost worker penalty p island others task f route own view task_is f_is finds =
    let on_plan = subst (λ (t : NetSearchOf). FindsRoute t f) task_is finds in
    let on_view = subst (λ (y : NetPlanOf). FindsRoute (search_of y island others) f) (sym view) on_plan in
    let here = subst (λ (e : Design). Finds e m snap.items island.net via_cost penalty island others f) own on_view in
    subst (Finds d m snap.items island.net via_cost penalty island others) f_is here

-- the search on a snapshot
abbrev search_at : Mesh → SnapOf → ℕ → Island → List Island → Design → Option ℕ → NetSearchOf
search_at m snap via_cost island others e q = record {
  on = ground_of e m snap.items;
  island = island;
  others = others;
  via_cost = via_cost;
  penalty = q;
}

-- and the stated route of one without a penalty
pub stated_there : (d : Design) (m : Mesh) (snap : SnapOf) (net via_cost worker : ℕ) (penalty : Option ℕ)
    (p : NetPlanOf) (island : Island) (others : List Island) (task : NetSearchOf) (f : Routed) (route : Route)
    → snap.design ≡ d → penalty ≡ None → island.net ≡ net
    → (record { by = planner_of m snap via_cost worker; net = net; penalty = penalty }) ≡ p
    → task ≡ search_of p island others → f ≡ routed.Route route → FindsStated task f
    → IsRouteStated m via_cost d snap.items net None island others route
stated_there d m snap net via_cost worker penalty p island others task f route own none net_is view task_is f_is finds =
    let on_plan = subst (λ (t : NetSearchOf). FindsStated t f) task_is finds in
    let on_view = subst (λ (y : NetPlanOf). FindsStated (search_of y island others) f) (sym view) on_plan in
    let there : IsStatedRoute (search_at m snap via_cost island others snap.design penalty) route =
    subst (FindsStated (search_at m snap via_cost island others snap.design penalty)) f_is on_view in
    let here : IsStatedRoute (search_at m snap via_cost island others d None) route =
    subst (λ (q : Design × Option ℕ). IsStatedRoute (search_at m snap via_cost island others q.0 q.1) route)
    (λ i. (own i, none i)) there in
    let mine : IsRouteStated m via_cost d snap.items island.net None island others route =
    record { is_route = here.is_route; stated = here.stated } in
    subst (λ (n : ℕ). IsRouteStated m via_cost d snap.items n None island others route) net_is mine

-- starts are nodes
pub starts_there : (y : NetSearchOf) (starts : List ℕ) → AreStarts y.on.d y.on.lat y.on.items y.island starts
    → All (λ v. v < node_count y.on.lat) starts
starts_there y starts are = starts_in_lattice y.on.d y.on.lat y.on.items y.island starts are

-- ---- routes
-- the route of a least walk
pub finds_least : (y : NetSearchOf) (starts goals : List ℕ) (w : Walk) (r : Route)
    → AreStarts y.on.d y.on.lat y.on.items y.island starts → AreGoals y.on.d y.on.lat y.on.items y.others goals
    → IsLeastWalk (walks_of y) starts goals w → IsRouteOf y w r
    → IsRoute y.on.d y.on.lat y.on.items y.island.net y.via_cost y.penalty y.island y.others r
finds_least y starts goals w r starts_are goals_are is_least is = record {
  starts = starts;
  starts_are = starts_are;
  goals = goals;
  goals_are = goals_are;
  walk = w;
  least = is_least;
  metals_are = is.metals_are;
  start = is.start;
  rest = is.rest;
  nodes_are = is.nodes_are;
  from_anchored = is.from_anchored;
  to_anchored = is.to_anchored;
}

-- that of the stated one
pub finds_stated : (y : NetSearchOf) (starts goals : List ℕ) (w : Walk) (r : Route)
    → AreStarts y.on.d y.on.lat y.on.items y.island starts → AreGoals y.on.d y.on.lat y.on.items y.others goals
    → IsStated (walks_of y) starts goals w → IsRouteOf y w r → IsStatedRoute y r
unfolding finds_least
finds_stated y starts goals w r starts_are goals_are stated is = record {
  is_route = finds_least y starts goals w r starts_are goals_are (are_least (walks_of y) starts goals w stated) is;
  stated = stated;
}

-- ---- whether a walk leads on
-- where none leads from the starts to a goal, none leads from the island
pub not_led : {E : Type 0} (y : NetSearchOf) (g : MoveGraph) (starts goals : List ℕ) (r : Result Bool E)
    → SameMoves g (walks_of y) → AreStarts y.on.d y.on.lat y.on.items y.island starts
    → AreGoals y.on.d y.on.lat y.on.items y.others goals
    → IfOk r (λ led. OnFalse led (NoneLeads g starts goals)) → IfOk r (λ led. OnFalse led (¬ (IsLed y)))
not_led y g starts goals (Ok true) same starts_are goals_are none = tt
not_led y g starts goals (Ok false) same starts_are goals_are none = λ led.
    let j = led.1 in
    let w = j.walk in
    none w.from w.hops w.to ((starts_are.exact w.from).1 ((j.starts_are.exact w.from).0 w.starts_in))
    ((goals_are.exact w.to).1 ((j.goals_are.exact w.to).0 w.ends_in))
    (leads_same (walks_of y) g (flipped g (walks_of y) same) w.hops w.from w.to w.leads)
not_led y g starts goals (Err error) same starts_are goals_are none = none

-- so it is where all that moves reach was found
pub shut_not_led : (y : NetSearchOf) (reach : Reach) → FindsStated y (routed.Shut reach) → ¬ (IsLed y)
shut_not_led y reach shut led =
    let j = led.1 in
    let w = j.walk in
    shut.none w.from w.hops w.to ((shut.starts_are.exact w.from).1 ((j.starts_are.exact w.from).0 w.starts_in))
    ((shut.goals_are.exact w.to).1 ((j.goals_are.exact w.to).0 w.ends_in)) w.leads
