-- A route becomes a least offer.
use Rattle.std.proofs.Common.{◌≡◌, ℕ, ◌<◌, List, Option, Some, None, refl, sym, ◌∙◌, subst}
use Rattle.pcb_model.specs.declared.item.Item.{Item}
use Rattle.pcb_model.specs.declared.design.Design.{Design}
use Rattle.pcb_islands.specs.declared.net.Island.{Island}
use Rattle.pcb_islands.specs.Islands.{pins_of}
use Rattle.pcb_islands.proofs.Gathering.{island_at}
use Rattle.route_lattice.specs.declared.moves.Walk.{Walk}
use Rattle.route_lattice.specs.Mesh.{Mesh}
use Rattle.route_lattice.specs.Walks.{IsLeastWalk}
use Rattle.route_lattice.specs.Legal.{IsLegalNode, legal_graph}
use Rattle.wave_search.specs.Stated.{IsStated}
use Rattle.board_offers.specs.declared.offer.Offer.{Offer}
use Rattle.pcb_board.specs.Boards.{BoardOf}
use Rattle.route_plan.specs.declared.route.Route.{Route}
use Rattle.least_offer.specs.Least.{walks_of, judged_on, IsAnchoredAt, JoinsLeast, TakesNothing, Chooses, IsLeastOffer}
use Rattle.route_plan.specs.Plans.{moves_of, StandsAt}
use Rattle.route_plan.specs.Routes.{IsAnchored, IsRoute}
use Rattle.least_offer.proofs.Standing.{uncleared}

-- an island of a net has that net
pub net_at : (d : Design) (items : List Item) (net place : ℕ) (island : Island) (others : List Island)
    → StandsAt d items net place island others → island.net ≡ net
net_at d items net place island others h = (island_at d items net
    (pins_of d net) h.found place island h.islands h.island_is).net_is

module _ (m : Mesh) (via_cost : ℕ) (b : BoardOf) (o : Offer) where
  walks_same : (q : Option ℕ) (starts goals : List ℕ) (w : Walk) → (q ≡ None → TakesNothing o)
      → IsLeastWalk (moves_of b.design m b.items o.net via_cost q) starts goals w
      → IsLeastWalk (walks_of m via_cost b o q) starts goals w
  walks_same None starts goals w takes h = subst (λ (xs : List Item). IsLeastWalk
      (legal_graph b.design m xs o.net via_cost) starts goals w) (sym (uncleared b o (takes refl))) h
  walks_same (Some p) starts goals w takes h = h

  judged_same : (q : Option ℕ) → (q ≡ None → TakesNothing o) → judged_on b o q ≡ b.items
  judged_same None takes = uncleared b o (takes refl)
  judged_same (Some p) takes = refl

  anchored_at : (island : Island) (node id x : ℕ) → x ≡ id → IsAnchored b.design m b.items island.items node id
      → IsAnchoredAt b m island node x
  anchored_at island node id x e h = subst (IsAnchoredAt b m island node) (sym e)
      (record { item = h.item; there = h.there; id_is = h.id_is; asked = h.asked; anchors = h.anchors })

  -- the copper of a route joins the island to one of the others
  pub joins : (island : Island) (others : List Island) (place : ℕ) (route : Route)
      → StandsAt b.design b.items o.net place island others
      → IsRoute b.design m b.items o.net via_cost o.penalty island others route → o.from ≡ route.from → o.to
      ≡ route.to → o.add ≡ route.metals
      → (o.penalty ≡ None → TakesNothing o) → JoinsLeast m via_cost b o island others
  joins island others place route stands r from_is to_is add_is takes =
      let judged = judged_same o.penalty takes in
      let net_is = net_at b.design b.items o.net place island others stands in
      record {
        starts = r.starts;
        starts_are = λ node. (
          λ there. let h = (r.starts_are.exact node).0 there in record {
            there = h.there;
            anchors = h.anchors;
            legal = subst (λ (xs : List Item). IsLegalNode b.design m xs o.net node) (sym judged)
                (subst (λ (n : ℕ). IsLegalNode b.design m b.items n node) net_is h.legal);
          },
          λ h. (r.starts_are.exact node).1 (record {
            there = h.there;
            anchors = h.anchors;
            legal = subst (λ (n : ℕ). IsLegalNode b.design m b.items n node) (sym net_is)
                (subst (λ (xs : List Item). IsLegalNode b.design m xs o.net node) judged h.legal);
          }),
        );
        goals = r.goals;
        goals_are = λ node. (
          λ there. let h = (r.goals_are.exact node).0 there in record { there = h.there; anchors = h.anchors },
          λ h. (r.goals_are.exact node).1 (record { there = h.there; anchors = h.anchors }),
        );
        walk = r.walk;
        least = walks_same o.penalty r.starts r.goals r.walk takes r.least;
        add_is = add_is ∙ r.metals_are;
        start = r.start;
        rest = r.rest;
        nodes_are = r.nodes_are;
        from_anchored = anchored_at island r.start route.from o.from from_is r.from_anchored;
        other = r.to_anchored.other;
        other_there = r.to_anchored.other_there;
        to_anchored = anchored_at r.to_anchored.other _ route.to o.to to_is r.to_anchored.anchored;
      }

  pub least : (island : Island) (others : List Island) (place : ℕ) (route : Route)
      → StandsAt b.design b.items o.net place island others
      → (o.worker < 16 → place ≡ 0) → IsRoute b.design m b.items o.net via_cost o.penalty island others route → o.from
      ≡ route.from → o.to ≡ route.to → o.add ≡ route.metals → (o.penalty ≡ None → TakesNothing o)
      → Chooses m b o o.penalty → IsLeastOffer m via_cost b o
  least island others place route stands first r from_is to_is add_is takes chooses = record {
    found = stands.found;
    islands = stands.islands;
    place = place;
    island = island;
    island_is = stands.island_is;
    first = first;
    joins = subst (JoinsLeast m via_cost b o island) stands.others_are
        (joins island others place route stands r from_is to_is add_is takes);
    chooses = chooses;
  }

  -- ---- stated walks
  stated_same : (q : Option ℕ) (starts goals : List ℕ) (w : Walk) → (q ≡ None → TakesNothing o)
      → IsStated (moves_of b.design m b.items o.net via_cost q) starts goals w
      → IsStated (walks_of m via_cost b o q) starts goals w
  stated_same None starts goals w takes h = subst (λ (xs : List Item). IsStated
      (legal_graph b.design m xs o.net via_cost) starts goals w) (sym (uncleared b o (takes refl))) h
  stated_same (Some p) starts goals w takes h = h

  -- the copper of a stated route joins the island so
  pub record JoinsStated (island : Island) (others : List Island) : Type 0 where
    pub joins : JoinsLeast m via_cost b o island others
    pub stated : IsStated (walks_of m via_cost b o o.penalty) joins.starts joins.goals joins.walk

  pub joins_stated : (island : Island) (others : List Island) (place : ℕ) (route : Route)
      → StandsAt b.design b.items o.net place island others
      → (r : IsRoute b.design m b.items o.net via_cost o.penalty island others route)
      → IsStated (moves_of b.design m b.items o.net via_cost o.penalty) r.starts r.goals r.walk → o.from ≡ route.from
      → o.to ≡ route.to → o.add ≡ route.metals → (o.penalty ≡ None → TakesNothing o) → JoinsStated island others
  unfolding joins
  joins_stated island others place route stands r stated from_is to_is add_is takes = record {
    joins = joins island others place route stands r from_is to_is add_is takes;
    stated = stated_same o.penalty r.starts r.goals r.walk takes stated;
  }
