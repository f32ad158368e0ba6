-- A route becomes the offer of a join.
use Rattle.std.proofs.Common.{◌≡◌, ℕ, List, length, Option, Some, None, refl, sym, ap, ◌∙◌, subst}
use Rattle.pcb_model.specs.declared.item.Item.{Item}
use Rattle.pcb_model.specs.declared.design.Design.{Design}
use Rattle.pcb_islands.specs.declared.net.Island.{Island}
use Rattle.route_lattice.specs.Mesh.{Mesh}
use Rattle.route_lattice.specs.Walks.{IsLeastWalk}
use Rattle.route_lattice.specs.Legal.{IsLegalNode}
use Rattle.path_wire.specs.Wires.{copper_of}
use Rattle.path_wire.specs.Diagonals.{wide_graph}
use Rattle.board_offers.specs.declared.offer.Offer.{Offer}
use Rattle.pcb_board.specs.Boards.{BoardOf, SnapOf}
use Rattle.pcb_board.specs.Answers.{snap_of}
use Rattle.least_offer.specs.Least.{judged_on, IsAnchoredAt, JoinsOver, TakesNothing}
use Rattle.least_offer.proofs.Standing.{uncleared}
use Rattle.wide_offer.specs.declared.search.Route.{Route}
use Rattle.wide_offer.specs.Leading.{IsWideJoin}
use Rattle.wide_offer.specs.inner.Routes.{IsAnchored, IsOfferOfRoute, IsRoute}

-- ---- a snapshot
-- what holds of the board's design and items holds of the snapshot's
pub on_snap : (F : Design → List Item → Type 0) (b : BoardOf) (s : SnapOf) (d : Design) → s ≡ snap_of b
    → d ≡ s.design → F b.design b.items → F d s.items
on_snap F b s d s_is d_is h =
    subst (λ (p : Design × List Item). F p.0 p.1)
    (λ i. (sym (d_is ∙ ap (λ (x : SnapOf). x.design) s_is) i, sym (ap (λ (x : SnapOf). x.items) s_is) i)) h

-- and the other way round
pub of_snap : (F : Design → List Item → Type 0) (b : BoardOf) (s : SnapOf) (d : Design) → s ≡ snap_of b
    → d ≡ s.design → F d s.items → F b.design b.items
of_snap F b s d s_is d_is h =
    subst (λ (p : Design × List Item). F p.0 p.1) (λ i. (
      (d_is ∙ ap (λ (x : SnapOf). x.design) s_is) i,
      ap (λ (x : SnapOf). x.items) s_is i,
    )) h

-- ---- offers
module _ (m : Mesh) (via_cost : ℕ) (b : BoardOf) (o : Offer) where
  anchored_at : (island : Island) (node id x : ℕ) → x ≡ id → IsAnchored b.design m b.items island.items node id
      → IsAnchoredAt b m island node x
  anchored_at island node id x e h = subst (IsAnchoredAt b m island node) (sym e)
      (record { item = h.item; there = h.there; id_is = h.id_is; asked = h.asked; anchors = h.anchors })

  -- without a penalty, and where nothing is taken out, starts are judged on the board as it is
  judged : (q : Option ℕ) → q ≡ None → TakesNothing o → judged_on b o q ≡ b.items
  judged None none takes = uncleared b o takes
  judged (Some p) none takes = refl

  -- the copper of a route joins the island to one of the others
  joins : (island : Island) (others : List Island) (route : Route) → o.net ≡ island.net → o.penalty ≡ None
      → TakesNothing o → IsRoute b.design m b.items via_cost island others route → o.from ≡ route.from
      → o.to ≡ route.to → o.add ≡ route.metals
      → JoinsOver (wide_graph b.design m b.items o.net via_cost) m b o island others
  joins island others route net_is free takes r from_is to_is add_is =
      let on = judged o.penalty free takes in
      let is = r.of_walk in
      record {
        starts = r.starts;
        starts_are = λ node. (
          λ there. let h = (r.starts_are.exact node).0 there in record {
            there = h.there;
            anchors = h.anchors;
            legal = subst (λ (xs : List Item). IsLegalNode b.design m xs o.net node) (sym on)
                (subst (λ (n : ℕ). IsLegalNode b.design m b.items n node) (sym net_is) h.legal);
          },
          λ h. (r.starts_are.exact node).1 (record {
            there = h.there;
            anchors = h.anchors;
            legal = subst (λ (n : ℕ). IsLegalNode b.design m b.items n node) net_is
                (subst (λ (xs : List Item). IsLegalNode b.design m xs o.net node) on h.legal);
          }),
        );
        goals = r.goals;
        goals_are = λ node. (
          λ there. let h = (r.goals_are.exact node).0 there in record { there = h.there; anchors = h.anchors },
          λ h. (r.goals_are.exact node).1 (record { there = h.there; anchors = h.anchors }),
        );
        walk = r.walk;
        least = subst (λ (n : ℕ). IsLeastWalk (wide_graph b.design m b.items n via_cost) r.starts r.goals r.walk)
            (sym net_is) r.least;
        add_is = add_is ∙ (is.metals_are ∙ ap (λ (n : ℕ). copper_of b.design m n r.walk.nodes r.walk.moves)
            (sym net_is));
        start = is.start;
        rest = is.rest;
        nodes_are = is.nodes_are;
        from_anchored = anchored_at island is.start route.from o.from from_is is.from_anchored;
        other = is.to_anchored.other;
        other_there = is.to_anchored.other_there;
        to_anchored = anchored_at is.to_anchored.other _ route.to o.to to_is is.to_anchored.anchored;
      }

  pub offers : (base : ℕ) (island : Island) (others : List Island) (route : Route) → base ≡ length b.history
      → IsRoute b.design m b.items via_cost island others route → IsOfferOfRoute base island.net route o
      → IsWideJoin m via_cost b island others o
  offers base island others route base_is r is =
      let takes : TakesNothing o = record { no_rip = is.rip_is; no_shove = is.shoves_is } in
      record {
        base_is = is.base_is ∙ base_is;
        worker_is = is.worker_is;
        net_is = is.net_is;
        penalty_is = is.penalty_is;
        takes = takes;
        joins = joins island others route is.net_is is.penalty_is takes r is.from_is is.to_is is.add_is;
      }
