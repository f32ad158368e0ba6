-- What a plan asks, for the calls that it makes, and what it answers, for each board.
use Rattle.std.proofs.Common.{◌≡◌, ℕ, ◌<◌, ◌≤◌, List, [], ◌∷◌, length, Option, Some, None, refl, sym, ap, ◌∙◌, subst}
use Rattle.std.proofs.Common.{arith}
use Rattle.std.specs.Prelude.{slice_get, remove}
use Rattle.pcb_model.specs.declared.item.Item.{Item}
use Rattle.pcb_model.specs.declared.design.Design.{Design}
use Rattle.pcb_model.specs.Copper.{Ascends}
use Rattle.pcb_islands.specs.declared.net.Island.{Island}
use Rattle.pcb_islands.specs.Islands.{AreIslands}
use Rattle.route_lattice.specs.Mesh.{Mesh}
use Rattle.route_lattice.specs.Fits.{FitsDesign}
use Rattle.pcb_model.specs.Plain.{IsPlainCopper}
use Rattle.board_offers.specs.declared.offer.Offer.{Offer}
use Rattle.pcb_board.specs.Boards.{BoardOf, SnapOf}
use Rattle.pcb_board.specs.Keeping.{IsBoard}
use Rattle.least_offer.specs.Least.{IsLeastOffer, JoinsLeast, TakesNothing, MayBeMade, Chooses}
use Rattle.route_plan.specs.declared.route.Route.{Route}
use Rattle.route_plan.specs.declared.way.Way.{Way}
use Rattle.route_plan.specs.Plans.{IsSnapOf, CanPlan, IsWhole, IsShutFrom, IsShutIn, IsOfferOf}
use Rattle.route_plan.specs.Searches.{CanWalk}
use Rattle.route_plan.specs.Routes.{IsRoute}
use Rattle.route_plan.specs.inner.RouteOffers.{IsRouteOffer}
use Rattle.route_plan.specs.Plans.{StandsAt, LeadsFrom, IsStatedOffer, moves_of}
use Rattle.wave_search.specs.Stated.{IsStated}
use Rattle.route_plan.specs.declared.plans.FromIsland.{FromIsland}
use Rattle.route_plan.proofs.Offering.{joins, joins_stated, least, net_at}

-- what its walks ask
pub can_walk : (d : Design) (m : Mesh) (s : SnapOf) (net via_cost : ℕ) (penalty : Option ℕ)
    → CanPlan d m s net via_cost penalty → CanWalk d m net via_cost penalty
can_walk d m s net via_cost penalty can = record {
  move = record { sound = can.sound; fits = can.fits; net_there = can.net_there; small_cost = can.small_cost };
  small_penalty = can.small_penalty;
}

-- the first island of a net has that net
pub first_net : (d : Design) (items : List Item) (net : ℕ) (found others : List Island) (island : Island)
    → AreIslands d items net found → slice_get found 0 ≡ Some island → others ≡ remove found 0 → island.net ≡ net
first_net d items net found others island islands first rest =
    net_at d items net 0 island others
    (record { found = found; islands = islands; island_is = first; others_are = rest })

-- the route of a stated walk
pub record IsRouteStated (m : Mesh) (via_cost : ℕ) (e : Design) (xs : List Item) (k : ℕ) (q : Option ℕ)
    (island : Island) (others : List Island) (route : Route) : Type 0 where
  pub is_route : IsRoute e m xs k via_cost q island others route
  pub stated : IsStated (moves_of e m xs k via_cost q) is_route.starts is_route.goals is_route.walk

module _ (d : Design) (m : Mesh) (s : SnapOf) (net via_cost : ℕ) (b : BoardOf) where
  -- what holds of the design and the snapshot's items holds of the board's
  pub on_board : (F : Design → List Item → Type 0) → s.design ≡ d → IsSnapOf s b → F d s.items → F b.design b.items
  on_board F own of h =
      subst (λ (p : Design × List Item). F p.0 p.1) (λ i. (
        sym (ap (λ (x : SnapOf). x.design) of.is
            ∙ own) i,
        sym (ap (λ (x : SnapOf). x.items) of.is) i,
      )) h

  pub number_is : IsSnapOf s b → s.number ≡ length b.history
  number_is of = sym (ap (λ (x : SnapOf). x.number) of.is)

  -- a route without a penalty becomes an offer
  pub legal_offer : (worker : ℕ) (island : Island) (others : List Island) (place : ℕ) (route : Route) (way : Way)
      (o : Offer) → CanPlan d m s net via_cost None
      → IsSnapOf s b → Ascends s.items → worker ≤ 16 → StandsAt b.design b.items net place island others
      → (worker < 16 → place ≡ 0)
      → IsRoute d m s.items net via_cost None island others route → (way.rip ≡ []) × (way.shoves ≡ [])
      → IsRouteOffer s.number worker net None route way o
      → ((m : Mesh) (via_cost : ℕ) (b : BoardOf) (o : Offer) → IsBoard b → Ascends b.items → IsPlainCopper b.design
      → FitsDesign b.design m → o.base ≤ length b.history
      → o.worker ≤ 16 → o.net < length b.design.nets → IsLeastOffer m via_cost b o
      → (o.penalty ≡ None → TakesNothing o) → MayBeMade b o)
      → IsOfferOf m via_cost b worker net None o × TakesNothing o × JoinsLeast m via_cost b o island others
  legal_offer worker island others place route way o can of up few stands first r none bare law =
      let takes : TakesNothing o = record { no_rip = bare.rip_is ∙ none.0; no_shove = bare.shoves_is ∙ none.1 } in
      let stands_on : StandsAt b.design b.items o.net place island others = subst
      (λ (n : ℕ). StandsAt b.design b.items n place island others) (sym bare.net_is) stands in
      let route_on : IsRoute b.design m b.items o.net via_cost o.penalty island others route =
      subst (λ (p : ℕ × Option ℕ). IsRoute b.design m b.items p.0 via_cost p.1 island others route)
      (λ i. (sym bare.net_is i, sym bare.penalty_is i))
      (on_board (λ d xs. IsRoute d m xs net via_cost None island others route) can.own of r) in
      let chooses : Chooses m b o o.penalty = subst (Chooses m b o) (sym bare.penalty_is) (λ w. takes) in
      let first_on : o.worker < 16 → place ≡ 0 = λ w. first (omega (arith, w, bare.worker_is)) in
      let is_least = least m via_cost b o island others place route stands_on first_on route_on bare.from_is bare.to_is
      bare.add_is (λ e. takes) chooses in
      let base_on : o.base ≡ length b.history = bare.base_is ∙ number_is of in
      let up_on : Ascends b.items = on_board (λ d xs. Ascends xs) can.own of up in (
        record {
          base_is = base_on;
          worker_is = bare.worker_is;
          net_is = bare.net_is;
          penalty_is = bare.penalty_is;
          least = is_least;
          may = law m via_cost b o of.board up_on of.plain (on_board (λ d xs. FitsDesign d m) can.own of can.fits)
              (omega (arith, base_on)) (omega (arith, few, bare.worker_is))
              (subst (λ (n : ℕ). n < length b.design.nets) (sym bare.net_is)
              (on_board (λ d xs. net < length d.nets) can.own of can.net_there)) is_least (λ e. takes);
        },
        takes,
        joins m via_cost b o island others place route stands_on route_on bare.from_is bare.to_is bare.add_is
            (λ e. takes),
      )

  -- so does the route of a stated walk
  pub stated_offer : (worker : ℕ) (island : Island) (others : List Island) (place : ℕ) (route : Route) (way : Way)
      (o : Offer) → CanPlan d m s net via_cost None
      → IsSnapOf s b → Ascends s.items → worker ≤ 16 → StandsAt b.design b.items net place island others
      → (worker < 16 → place ≡ 0) → IsRouteStated m via_cost d s.items net None island others route
      → (way.rip ≡ []) × (way.shoves ≡ []) → IsRouteOffer s.number worker net None route way o
      → ((m : Mesh) (via_cost : ℕ) (b : BoardOf) (o : Offer) → IsBoard b → Ascends b.items → IsPlainCopper b.design
      → FitsDesign b.design m → o.base ≤ length b.history
      → o.worker ≤ 16 → o.net < length b.design.nets → IsLeastOffer m via_cost b o
      → (o.penalty ≡ None → TakesNothing o) → MayBeMade b o) → island.net ≡ net
      → IsStatedOffer m via_cost b worker island others o
  stated_offer worker island others place route way o can of up few stands first r none bare law own =
      let made = legal_offer worker island others place route way o can of up few stands first r.is_route none bare law
      in
      let stands_on : StandsAt b.design b.items o.net place island others = subst
      (λ (n : ℕ). StandsAt b.design b.items n place island others) (sym bare.net_is) stands in
      let on : IsRouteStated m via_cost b.design b.items o.net o.penalty island others route =
      subst (λ (p : ℕ × Option ℕ). IsRouteStated m via_cost b.design b.items p.0 p.1 island others route)
      (λ i. (sym bare.net_is i, sym bare.penalty_is i))
      (on_board (λ e xs. IsRouteStated m via_cost e xs net None island others route) can.own of r) in
      let j = joins_stated m via_cost b o island others place route stands_on on.is_route on.stated bare.from_is
      bare.to_is bare.add_is (λ e. made.1) in
      record {
        offer = subst (λ (n : ℕ). IsOfferOf m via_cost b worker n None o) (sym own) made.0;
        takes = made.1;
        joins = j.joins;
        stated = j.stated;
      }

  -- the first island and the others on the snapshot are those on the board
  pub first_stands : (penalty : Option ℕ) (found others : List Island) (island : Island)
      → CanPlan d m s net via_cost penalty → IsSnapOf s b → AreIslands d s.items net found
      → slice_get found 0 ≡ Some island → others ≡ remove found 0 → StandsAt b.design b.items net 0 island others
  first_stands penalty found others island can of islands first rest = record {
    found = found;
    islands = on_board (λ d xs. AreIslands d xs net found) can.own of islands;
    island_is = first;
    others_are = rest;
  }

  -- so where the first island leads on all boards of the snapshot it leads on this one
  pub first_leads : (worker : ℕ) (penalty : Option ℕ) (found others : List Island) (island : Island)
      (answer : FromIsland) → CanPlan d m s net via_cost penalty → IsSnapOf s b → AreIslands d s.items net found
      → slice_get found 0 ≡ Some island → others ≡ remove found 0
      → ((place : ℕ) → StandsAt b.design b.items island.net place island others → (worker < 16 → place ≡ 0)
      → LeadsFrom m via_cost b worker penalty island others answer)
      → (island.net ≡ net) × LeadsFrom m via_cost b worker penalty island others answer
  first_leads worker penalty found others island answer can of islands first rest leads =
      let stands = first_stands penalty found others island can of islands first rest in
      let own = net_at b.design b.items net 0 island others stands in
      (own, leads 0 (subst (λ (n : ℕ). StandsAt b.design b.items n 0 island others) (sym own) stands) (λ few. refl))

  pub whole : (penalty : Option ℕ) (found : List Island) → CanPlan d m s net via_cost penalty → IsSnapOf s b
      → AreIslands d s.items net found → length found ≤ 1 → IsWhole b.design b.items net
  whole penalty found can of islands few = record {
    found = found;
    islands = on_board
        (λ d xs. AreIslands d xs net found) can.own of islands;
    few = few;
  }

-- the first island, and the others
none_some : {X : Type 0} (x : X) → None ≡ Some x → ⊥
none_some x e = cc

pub first_and_rest : (xs : List Island) (x : Island) → slice_get xs 0 ≡ Some x → xs ≡ x ∷ remove xs 0
first_and_rest [] x e = absurd (none_some x e)
first_and_rest (y ∷ xs) x e = cc

pub split : (d : Design) (items : List Item) (net : ℕ) (found others : List Island) (island : Island)
    → AreIslands d items net found → slice_get found 0 ≡ Some island → others ≡ remove found 0
    → AreIslands d items net (island ∷ others)
split d items net found others island h first rest =
    subst (AreIslands d items net) (first_and_rest found island first
    ∙ ap (λ (xs : List Island). island ∷ xs) (sym rest)) h

-- no walk leads from the first island, so the net is shut in
pub shut_first : (d : Design) (m : Mesh) (items : List Item) (net via_cost : ℕ) (penalty : Option ℕ)
    (found others : List Island) (island : Island) (nodes : List ℕ)
    → AreIslands d items net found → slice_get found 0 ≡ Some island → others ≡ remove found 0 → 0 < length others
    → island.net ≡ net → IsShutFrom d m items island.net via_cost penalty island others nodes
    → IsShutIn d m items net via_cost penalty nodes
shut_first d m items net via_cost penalty found others island nodes islands first rest several own shut = record {
  island = island;
  others = others;
  islands = split d items net found others island islands first rest;
  several = several;
  shut = subst (λ (n : ℕ). IsShutFrom d m items n via_cost penalty island others nodes) own shut;
}

pub some_left : (found others : List Island) (island : Island) → slice_get found 0 ≡ Some island → others
    ≡ remove found 0 → 1 < length found → 0 < length others
some_left found others island first rest many =
    let e : length found ≡ length (island ∷ others) = ap (λ (xs : List Island). length xs)
    (first_and_rest found island first ∙ ap (λ (xs : List Island). island ∷ xs) (sym rest)) in
    omega (arith, e)
