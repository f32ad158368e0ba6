-- A route past routed items, and what makes way for it, become a least offer.
use Rattle.std.proofs.Common.{◌≡◌, inl, inr, ℕ, ◌<◌, ◌≤◌, List, [], length, Option, Some, None, sym, ◌∙◌, subst}
use Rattle.std.proofs.Common.{arith, All}
use Rattle.pcb_model.specs.declared.item.Item.{Item}
use Rattle.pcb_model.specs.declared.item.Metal.{Metal}
use Rattle.pcb_model.specs.declared.design.Design.{Design}
use Rattle.pcb_model.specs.Copper.{Ascends}
use Rattle.pcb_model.specs.Plain.{IsPlainCopper}
use Rattle.pcb_model.specs.Sound.{IsSound}
use Rattle.pcb_islands.specs.declared.net.Island.{Island}
use Rattle.route_lattice.specs.declared.moves.Move.{Move}
use Rattle.route_lattice.specs.Mesh.{Mesh}
use Rattle.route_lattice.specs.Fits.{FitsDesign}
use Rattle.path_wire.specs.Wires.{IsNetWalk, copper_of}
use Rattle.path_wire.specs.Lays.{IsWellLaid}
use Rattle.cut_certificate.proofs.Making.{starts_in_lattice}
use Rattle.ripup.specs.Rips.{AreIdsInWay}
use Rattle.board_offers.specs.declared.offer.Offer.{Offer}
use Rattle.board_offers.specs.declared.offer.Shoved.{Shoved}
use Rattle.board_offers.specs.Items.{added, added_from}
use Rattle.pcb_board.specs.Boards.{BoardOf, SnapOf, given}
use Rattle.pcb_board.specs.Keeping.{IsBoard}
use Rattle.least_offer.specs.Least.{IsLaidLeast, IsLeastOffer, TakesNothing, MayBeMade, JoinsLeast, Chooses, MakesWay}
use Rattle.least_offer.specs.Least.{AreShovesOf, shoving}
use Rattle.least_offer.specs.Together.{StandTogether}
use Rattle.route_plan.specs.declared.way.Way.{Way}
use Rattle.route_plan.specs.inner.Ways.{MakesWayOn}
use Rattle.route_plan.specs.declared.route.Route.{Route}
use Rattle.route_plan.specs.Plans.{IsSnapOf, CanPlan}
use Rattle.route_plan.specs.Routes.{IsRoute}
use Rattle.route_plan.specs.inner.RouteOffers.{IsRouteOffer, MakesWayFor}
use Rattle.route_plan.specs.Plans.{IsOfferOf, StandsAt}
use Rattle.route_plan.proofs.Offering.{joins, least}
use Rattle.route_plan.proofs.Planning.{on_board, number_is, legal_offer}
use Rattle.route_plan.proofs.Routing.{net_walk_of}

-- ---- the laws
-- what the laws on least offers say
abbrev pub LeastMay : Type 0
LeastMay = (m : Mesh) (via_cost : ℕ) (b : BoardOf) (o : Offer) → IsBoard b → Ascends b.items → IsPlainCopper b.design
    → FitsDesign b.design m → o.base ≤ length b.history
    → o.worker ≤ 16 → o.net < length b.design.nets → IsLeastOffer m via_cost b o
    → (o.penalty ≡ None → TakesNothing o) → MayBeMade b o

abbrev pub ShovesMay : Type 0
ShovesMay = (m : Mesh) (via_cost : ℕ) (b : BoardOf) (o : Offer) (penalty : ℕ) (ids : List ℕ) → IsBoard b
    → Ascends b.items → IsPlainCopper b.design → FitsDesign b.design m
    → o.base ≤ length b.history → o.worker ≤ 16 → o.net < length b.design.nets → IsLaidLeast m via_cost b o
    → o.penalty ≡ Some penalty
    → AreIdsInWay b.design b.items (added b.design (given b) o) ids
    → AreShovesOf b.design m b.items (added b.design (given b) o) ids o.shoves → o.rip ≡ []
    → StandTogether b.design b.items o.shoves → MayBeMade b o

abbrev pub MadeStand : Type 0
MadeStand = (b : BoardOf) (o : Offer) → IsBoard b → MayBeMade b o → StandTogether b.design b.items o.shoves

abbrev pub InWayAlike : Type 0
InWayAlike = (d : Design) (net : ℕ) (items : List Item) (i k : ℕ) (metals : List Metal) (ids : List ℕ)
    → AreIdsInWay d items (added_from d net i metals) ids → AreIdsInWay d items (added_from d net k metals) ids

abbrev pub ShovesAlike : Type 0
ShovesAlike = (d : Design) (m : Mesh) (net : ℕ) (items : List Item) (i k : ℕ) (metals : List Metal) (ids : List ℕ)
    (ss : List Shoved)
    → AreShovesOf d m items (added_from d net i metals) ids ss
    → AreShovesOf d m items (added_from d net k metals) ids ss

-- ---- copper
-- the route's copper is well laid
pub well_laid : (d : Design) (m : Mesh) (items : List Item) (net via_cost : ℕ) (penalty : Option ℕ) (island : Island)
    (others : List Island) (route : Route)
    → IsSound d → FitsDesign d m → net < length d.nets
    → ((d : Design) (m : Mesh) (net id : ℕ) (nodes : List ℕ) (moves : List Move) → IsSound d → FitsDesign d m
    → net < length d.nets → IsNetWalk d m net nodes moves → All (IsWellLaid d net id) (copper_of d m net nodes moves))
    → IsRoute d m items net via_cost penalty island others route → All (IsWellLaid d net 0) route.metals
well_laid d m items net via_cost penalty island others route sound fits there law r =
    let walk = net_walk_of d m items net via_cost penalty r.starts r.goals r.walk
    (starts_in_lattice d m items island r.starts r.starts_are) r.least.walk in
    subst (All (IsWellLaid d net 0)) (sym r.metals_are) (law d m net 0 r.walk.nodes r.walk.moves sound fits there walk)

-- ---- the choice
none_some : (p : ℕ) → None ≡ Some p → ⊥
none_some p e = cc

module _ (m : Mesh) (via_cost : ℕ) (b : BoardOf) (o : Offer) (penalty : ℕ) (board : IsBoard b) (up : Ascends b.items)
    (plain : IsPlainCopper b.design) (fits : FitsDesign b.design m)
    (base : o.base ≤ length b.history) (worker : o.worker ≤ 16) (there : o.net < length b.design.nets)
    (penalty_is : o.penalty ≡ Some penalty) where
  -- what makes way on the board's items makes way for the offer
  pub makes_way : IsLaidLeast m via_cost b o → ShovesMay → MadeStand → InWayAlike → ShovesAlike → (way : Way)
      → o.rip ≡ way.rip → o.shoves ≡ way.shoves
      → MakesWayOn b.design m b.items (added_from b.design o.net 0 o.add) way → MakesWay m b o
  makes_way laid may stand in_way alike way rip_is shoves_is w =
      let next = length (given b) in
      let blocked : AreIdsInWay b.design b.items (added b.design (given b) o) w.ids = in_way b.design o.net b.items 0
      next o.add w.ids w.in_way in
      record {
        ids = w.ids;
        in_way = blocked;
        chosen = elim w.chosen [
          | inl h ↦
              let shoves_are : AreShovesOf b.design m b.items (added b.design (given b) o) w.ids o.shoves =
              subst (AreShovesOf b.design m b.items (added b.design (given b) o) w.ids) (sym shoves_is)
              (alike b.design m o.net b.items 0 next o.add w.ids way.shoves h.shoves_are) in
              inl (record {
                shoves_are = shoves_are;
                no_rip = rip_is ∙ h.no_rip;
                may = may m via_cost b o penalty w.ids board up plain fits base worker there laid penalty_is blocked
                    shoves_are (rip_is ∙ h.no_rip) (subst (StandTogether b.design b.items) (sym shoves_is) h.together);
              })
          | inr h ↦ inr (record {
            rips_are = rip_is ∙ h.rips_are;
            no_shove = shoves_is ∙ h.no_shove;
            may_not = λ shoves are made. h.not_together shoves (alike b.design m o.net b.items next 0 o.add w.ids
                shoves are) (stand b (shoving o shoves) board made);
          })
        ];
      }

-- ---- the offer
module _ (d : Design) (m : Mesh) (s : SnapOf) (net via_cost : ℕ) (b : BoardOf) where
  -- a route with what makes way for it becomes an offer
  pub passing : (worker penalty : ℕ) (island : Island) (others : List Island) (place : ℕ) (route : Route) (way : Way)
      (o : Offer) → CanPlan d m s net via_cost (Some penalty)
      → IsSnapOf s b → Ascends s.items → worker ≤ 16 → StandsAt b.design b.items net place island others
      → (worker < 16 → place ≡ 0)
      → IsRoute d m s.items net via_cost (Some penalty) island others route
      → MakesWayOn d m s.items (added_from d net 0 route.metals) way
      → IsRouteOffer s.number worker net (Some penalty) route way o → LeastMay → ShovesMay → MadeStand → InWayAlike
      → ShovesAlike
      → IsOfferOf m via_cost b worker net (Some penalty) o × JoinsLeast m via_cost b o island others
  passing worker penalty island others place route way o can of up few stands first r w is law may stand in_way alike =
      let stands_on : StandsAt b.design b.items o.net place island others =
      subst (λ (n : ℕ). StandsAt b.design b.items n place island others) (sym is.net_is) stands in
      let route_on : IsRoute b.design m b.items o.net via_cost o.penalty island others route =
      subst (λ (p : ℕ × Option ℕ). IsRoute b.design m b.items p.0 via_cost p.1 island others route)
      (λ i. (sym is.net_is i, sym is.penalty_is i))
      (on_board d m s net via_cost b (λ d xs. IsRoute d m xs net via_cost (Some penalty) island others route) can.own
      of r) in
      let way_on : MakesWayOn b.design m b.items (added_from b.design o.net 0 o.add) way =
      subst (λ (p : ℕ × List Metal). MakesWayOn b.design m b.items (added_from b.design p.0 0 p.1) way)
      (λ i. (sym is.net_is i, sym is.add_is i))
      (on_board d m s net via_cost b (λ d xs. MakesWayOn d m xs (added_from d net 0 route.metals) way) can.own of w) in
      let takes : o.penalty ≡ None → TakesNothing o = λ e. absurd (none_some penalty (sym e ∙ is.penalty_is)) in
      let base_on : o.base ≡ length b.history = is.base_is ∙ number_is d m s net via_cost b of in
      let base : o.base ≤ length b.history = omega (arith, base_on) in
      let worker_on : o.worker ≤ 16 = omega (arith, few, is.worker_is) in
      let up_on : Ascends b.items = on_board d m s net via_cost b (λ d xs. Ascends xs) can.own of up in
      let fits_on : FitsDesign b.design m = on_board d m s net via_cost b (λ d xs. FitsDesign d m) can.own of
      can.fits in
      let there : o.net < length b.design.nets = subst (λ (n : ℕ). n < length b.design.nets) (sym is.net_is)
      (on_board d m s net via_cost b (λ d xs. net < length d.nets) can.own of can.net_there) in
      let laid : IsLaidLeast m via_cost b o = record {
        found = stands_on.found;
        islands = stands_on.islands;
        place = place;
        island = island;
        island_is = stands_on.island_is;
        joins = subst (JoinsLeast m via_cost b o island) stands_on.others_are
            (joins m via_cost b o island others place route stands_on route_on is.from_is is.to_is is.add_is takes);
      } in
      let makes = makes_way m via_cost b o penalty of.board up_on of.plain fits_on base worker_on there is.penalty_is
      laid may stand in_way alike way is.rip_is is.shoves_is way_on in
      let chooses : Chooses m b o o.penalty = subst (Chooses m b o) (sym is.penalty_is) makes in
      let is_least = least m via_cost b o island others place route stands_on
      (λ w. first (omega (arith, w, is.worker_is))) route_on is.from_is is.to_is is.add_is takes chooses in (
        record {
          base_is = base_on;
          worker_is = is.worker_is;
          net_is = is.net_is;
          penalty_is = is.penalty_is;
          least = is_least;
          may = law m via_cost b o of.board up_on of.plain fits_on base worker_on there is_least takes;
        },
        joins m via_cost b o island others place route stands_on route_on is.from_is is.to_is is.add_is takes,
      )

  -- so a route becomes an offer, with a penalty or without
  pub route_offer : (worker : ℕ) (penalty : Option ℕ) (island : Island) (others : List Island) (place : ℕ)
      (route : Route) (way : Way) (o : Offer) → CanPlan d m s net via_cost penalty → IsSnapOf s b → Ascends s.items
      → worker ≤ 16 → StandsAt b.design b.items net place island others → (worker < 16 → place ≡ 0)
      → IsRoute d m s.items net via_cost penalty island others route
      → MakesWayFor d m s.items net penalty route.metals way → IsRouteOffer s.number worker net penalty route way o
      → LeastMay → ShovesMay → MadeStand → InWayAlike → ShovesAlike
      → IsOfferOf m via_cost b worker net penalty o × (penalty ≡ None → TakesNothing o)
      × JoinsLeast m via_cost b o island others
  route_offer worker None island others place route way o can of up few stands first r w is law may stand in_way alike =
      let made = legal_offer d m s net via_cost b worker island others place route way o can of up few stands first r w
      is law in
      (made.0, λ e. made.1, made.2)
  route_offer worker (Some p) island others place route way o can of up few stands first r w is law may stand in_way
      alike =
      let made = passing worker p island others place route way o can of up few stands first r w is law may stand in_way
      alike in
      (made.0, λ e. absurd (none_some p (sym e)), made.1)
