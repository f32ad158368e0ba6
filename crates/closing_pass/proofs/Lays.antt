-- The stated route past an item becomes the copper of an offer that makes way so.
use Rattle.std.proofs.Common.{◌≡◌, ◌≢◌, ℕ, List, Option, Some, None, sym, ap, ◌∙◌, subst}
use Rattle.std.specs.Prelude.{Contains, IfSome}
use Rattle.pcb_model.specs.declared.item.Item.{Item}
use Rattle.pcb_model.specs.declared.design.Design.{Design}
use Rattle.pcb_islands.specs.declared.net.Island.{Island}
use Rattle.route_lattice.specs.Anchors.{AnchorsAmong}
use Rattle.route_lattice.specs.Legal.{IsLegalNode, legal_graph}
use Rattle.route_lattice.specs.Walks.{MoveGraph, IsLeastWalk, NoneLeads}
use Rattle.route_lattice.specs.declared.moves.Walk.{Walk}
use Rattle.route_lattice.specs.declared.moves.Found.TheVariants as found
use Rattle.wave_search.specs.Stated.{IsStated}
use Rattle.path_wire.specs.Wires.{copper_of}
use Rattle.path_wire.specs.Joins.{last_node}
use Rattle.cut_certificate.specs.Same.{SameMoves}
use Rattle.cut_certificate.proofs.Same.{flipped, leads_same}
use Rattle.cut_certificate.specs.Cuts.{AreStarts, AreGoals, IsStart, IsGoal}
use Rattle.board_offers.specs.declared.offer.Offer.{Offer}
use Rattle.pcb_board.specs.Boards.{BoardOf}
use Rattle.least_offer.specs.Least.{cleared, walks_of, judged_on, IsStartOf, IsGoalOf, IsAnchoredAt}
use Rattle.route_plan.specs.declared.route.Route.{Route}
use Rattle.route_plan.specs.Routes.{IsAnchored, IsStatedRoute}
use Rattle.route_plan.proofs.Alike.{answers_same}
use Rattle.closing_pass.specs.Settled.{LaysStated}
use Rattle.closing_pass.specs.inner.Rooms.{IsPast}
use Rattle.closing_pass.specs.inner.Tries.{ShutIslandOf, search_on}
use Rattle.closing_pass.proofs.Ids.{stated_alike}
use Rattle.closing_pass.proofs.Anchored.{AreOfNet, anchors_home, anchors_past, item_home}
use Rattle.closing_pass.proofs.Laying.{IsLike}

module _ (s : ShutIslandOf) (o : Offer) (x : Item) (n : ℕ) (moved : Option Item) (past rest : List Item)
    (is : IsPast s.board.items x.id moved past) (same : is.item ≡ x) (x_in : Contains s.board.items x)
    (x_net : x.net ≡ Some n) (apart : n ≢ s.island.net) (moved_id : IfSome moved (λ (a : Item). a.id ≡ x.id))
    (net_is : o.net ≡ s.island.net) (none : o.penalty ≡ None)
    (own : AreOfNet s.board.items s.island.items s.island.net)
    (others_own : (i : Island) → Contains s.others i → AreOfNet s.board.items i.items s.island.net)
    (like : IsLike s.board.design s.lat o.net s.via_cost past (cleared s.board o)) where
  abbrev b : BoardOf
  b = s.board

  abbrev d : Design
  d = b.design

  -- ---- starts and goals
  to_board : (ids : List ℕ) → AreOfNet b.items ids s.island.net → (node : ℕ) → AnchorsAmong d s.lat past ids node
      → AnchorsAmong d s.lat b.items ids node
  to_board ids of node h = anchors_home b.items is.rest past is.item n s.island.net moved is.removed is.put
      (subst (Contains b.items) (sym same) x_in) (ap (λ (y : Item). y.net) same ∙ x_net) apart
      (subst (λ (y : Item). IfSome moved (λ (a : Item). a.id ≡ y.id)) (sym same) moved_id) d s.lat ids of node h

  from_board : (ids : List ℕ) → AreOfNet b.items ids s.island.net → (node : ℕ) → AnchorsAmong d s.lat b.items ids node
      → AnchorsAmong d s.lat past ids node
  from_board ids of node h = anchors_past b.items is.rest past is.item n s.island.net moved is.removed is.put
      (subst (Contains b.items) (sym same) x_in) (ap (λ (y : Item). y.net) same ∙ x_net) apart
      (subst (λ (y : Item). IfSome moved (λ (a : Item). a.id ≡ y.id)) (sym same) moved_id) d s.lat ids of node h

  judged : judged_on b o o.penalty ≡ cleared b o
  judged = ap (judged_on b o) none

  start_of : (node : ℕ) → IsStart d s.lat past s.island node → IsStartOf b s.lat o s.island node
  start_of node h = record {
    there = h.there;
    anchors = to_board s.island.items own node h.anchors;
    legal = subst (λ (xs : List Item). IsLegalNode d s.lat xs o.net node) (sym judged)
        (like.over node (subst (λ (k : ℕ). IsLegalNode d s.lat past k node) (sym net_is) h.legal));
  }

  of_start : (node : ℕ) → IsStartOf b s.lat o s.island node → IsStart d s.lat past s.island node
  of_start node h = record {
    there = h.there;
    anchors = from_board s.island.items own node h.anchors;
    legal = subst (λ (k : ℕ). IsLegalNode d s.lat past k node) net_is
        (like.back node (subst (λ (xs : List Item). IsLegalNode d s.lat xs o.net node) judged h.legal));
  }

  goal_of : (node : ℕ) → IsGoal d s.lat past s.others node → IsGoalOf b s.lat s.others node
  goal_of node h =
      let a = h.anchors in
      record {
        there = h.there;
        anchors = (a.0, a.1, a.2, a.3, to_board a.1.items (others_own a.1 (a.0, a.2, a.3)) node a.4);
      }

  of_goal : (node : ℕ) → IsGoalOf b s.lat s.others node → IsGoal d s.lat past s.others node
  of_goal node h =
      let a = h.anchors in
      record {
        there = h.there;
        anchors = (a.0, a.1, a.2, a.3, from_board a.1.items (others_own a.1 (a.0, a.2, a.3)) node a.4);
      }

  -- ---- the walk
  abbrev on_past : MoveGraph
  on_past = legal_graph d s.lat past s.island.net s.via_cost

  abbrev on_cleared : MoveGraph
  on_cleared = legal_graph d s.lat (cleared b o) o.net s.via_cost

  moves_over : SameMoves on_past on_cleared
  moves_over = subst (λ (k : ℕ). SameMoves (legal_graph d s.lat past k s.via_cost) on_cleared) net_is like.moves

  least_over : (starts goals : List ℕ) (w : Walk) → IsLeastWalk on_past starts goals w
      → IsLeastWalk (walks_of s.lat s.via_cost b o o.penalty) starts goals w
  least_over starts goals w h =
      subst (λ (q : Option ℕ). IsLeastWalk (walks_of s.lat s.via_cost b o q) starts goals w) (sym none)
      (answers_same on_past on_cleared moves_over starts goals (found.Walk w) h)

  stated_over : (starts goals : List ℕ) (w : Walk) → IsStated on_past starts goals w
      → IsStated (walks_of s.lat s.via_cost b o o.penalty) starts goals w
  stated_over starts goals w h =
      subst (λ (q : Option ℕ). IsStated (walks_of s.lat s.via_cost b o q) starts goals w) (sym none)
      (stated_alike on_past on_cleared moves_over starts goals w h)

  anchored_at : (i : Island) → AreOfNet b.items i.items s.island.net → (node id y : ℕ) → y ≡ id
      → IsAnchored d s.lat past i.items node id → IsAnchoredAt b s.lat i node y
  anchored_at i of node id y e a = subst (IsAnchoredAt b s.lat i node) (sym e) (record {
    item = a.item;
    there = item_home b.items is.rest past is.item n s.island.net moved is.removed is.put
        (subst (Contains b.items) (sym same) x_in) (ap (λ (z : Item). z.net) same ∙ x_net) apart
        (subst (λ (z : Item). IfSome moved (λ (c : Item). c.id ≡ z.id)) (sym same) moved_id) i.items of a.item a.there
        (subst (Contains i.items) (sym a.id_is) a.asked);
    id_is = a.id_is;
    asked = a.asked;
    anchors = a.anchors;
  })

  -- the route is what the offer lays
  pub lays : (route : Route) → IsStatedRoute (search_on s past) route → o.from ≡ route.from → o.to ≡ route.to
      → o.add ≡ route.metals → LaysStated s.lat s.via_cost b o s.island s.others
  lays route r from_is to_is add_is =
      let i = r.is_route in
      record {
        joins = record {
          starts = i.starts;
          starts_are = λ node. (
            λ h. start_of node ((i.starts_are.exact node).0 h),
            λ h. (i.starts_are.exact node).1 (of_start node h),
          );
          goals = i.goals;
          goals_are = λ node. (
            λ h. goal_of node ((i.goals_are.exact node).0 h),
            λ h. (i.goals_are.exact node).1 (of_goal node h),
          );
          walk = i.walk;
          least = least_over i.starts i.goals i.walk i.least;
          add_is = add_is ∙ i.metals_are
              ∙ ap (λ (k : ℕ). copper_of d s.lat k i.walk.nodes i.walk.moves) (sym net_is);
          start = i.start;
          rest = i.rest;
          nodes_are = i.nodes_are;
          from_anchored = anchored_at s.island own i.start route.from o.from from_is i.from_anchored;
          other = i.to_anchored.other;
          other_there = i.to_anchored.other_there;
          to_anchored = anchored_at i.to_anchored.other (others_own i.to_anchored.other i.to_anchored.other_there)
              (last_node i.start i.rest) route.to o.to to_is i.to_anchored.anchored;
        };
        stated = stated_over i.starts i.goals i.walk r.stated;
      }

  -- where no walk leads there, no offer that makes way so lays one
  pub lays_none : (starts goals : List ℕ) → AreStarts d s.lat past s.island starts
      → AreGoals d s.lat past s.others goals → NoneLeads on_past starts goals
      → LaysStated s.lat s.via_cost b o s.island s.others → ⊥
  lays_none starts goals starts_are goals_are never l =
      let j = l.joins in
      let w : IsLeastWalk on_cleared j.starts j.goals j.walk =
      subst (λ (q : Option ℕ). IsLeastWalk (walks_of s.lat s.via_cost b o q) j.starts j.goals j.walk) none j.least in
      let g = w.walk in
      never g.from g.hops g.to
      ((starts_are.exact g.from).1 (of_start g.from ((j.starts_are g.from).0 g.starts_in)))
      ((goals_are.exact g.to).1 (of_goal g.to ((j.goals_are g.to).0 g.ends_in)))
      (leads_same on_cleared on_past (flipped on_past on_cleared moves_over) g.hops g.from g.to g.leads)
