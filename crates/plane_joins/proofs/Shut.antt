-- An island from which no walk leads to a rib stays so while copper comes.
use Rattle.std.proofs.Common.{ℕ, ◌≤◌, ◌⊎◌, inl, inr, arith, List, [], ◌∷◌, ◌++◌, All, Contains}
use Rattle.std.proofs.Common.{Option, Some, None}
use Rattle.std.proofs.lemmas.List.Elements.{All-contains, Contains-append_cases, Contains-append_left}
use Rattle.pcb_model.specs.declared.item.Item.{Item}
use Rattle.pcb_model.specs.declared.item.Probe.{Probe}
use Rattle.pcb_islands.specs.declared.net.Island.{Island}
use Rattle.route_lattice.specs.Anchors.{AnchorsAmong}
use Rattle.route_lattice.specs.Legal.{IsLegalProbe, IsOpen, probe_at}
use Rattle.route_lattice.specs.Walks.{Hop, Leads, Opens}
use Rattle.cut_certificate.specs.Cuts.{IsStart}
use Rattle.plane_joins.specs.Stubs.{EndsAtRib, HasNoStub, RibGround, Touches, TouchesRib, moves_on, with_items}

module _ (g : RibGround) (more : List Item) (behind : All (λ (b : Item). g.last ≤ b.id) more) where
  abbrev later : RibGround
  later = with_items g (g.items ++ more)

  -- ---- what is legal with more copper is legal with less
  legal_before : (net : ℕ) (p : Probe) → IsLegalProbe g.d (g.items ++ more) net p → IsLegalProbe g.d g.items net p
  legal_before net p h = record {
    agrees = λ b there. h.agrees b (Contains-append_left g.items more b there);
    inside = h.inside;
  }

  open_before : (net : ℕ) (o : Option Probe) → IsOpen g.d (g.items ++ more) net o → IsOpen g.d g.items net o
  open_before net None h = h
  open_before net (Some p) h = legal_before net p h

  hop_before : (net node : ℕ) (h : Hop) → Opens (moves_on later net) node h → Opens (moves_on g net) node h
  hop_before net node h o = record {
    listed = o.listed;
    leads = o.leads;
    is_open = open_before net (probe_at g.d g.lat net node h.index) o.is_open;
    costs = o.costs;
  }

  leads_before : (net s : ℕ) (hs : List Hop) (t : ℕ) → Leads (moves_on later net) s hs t → Leads (moves_on g net) s hs t
  leads_before net s [] t leads = leads
  leads_before net s (h ∷ hs) t (o, rest) = (hop_before net s h o, leads_before net h.to hs t rest)

  -- ---- the ribs are the same
  touch_before : (net : ℕ) (p : Probe) → TouchesRib later net p → TouchesRib g net p
  touch_before net p h = record {
    rib = h.rib;
    there = by (Contains-append_cases g.items more h.rib h.there);
    from_first = h.from_first;
    below_last = h.below_last;
    touch = h.touch;
  }
    where
      by : Contains g.items h.rib ⊎ Contains more h.rib → Contains g.items h.rib
      by (inl there) = there
      by (inr there) =
          let past = All-contains (λ (b : Item). g.last ≤ b.id) more h.rib behind there in
          let before = h.below_last in
          absurd (omega (arith, past, before))

  touches_before : (net : ℕ) (o : Option Probe) → Touches later net o → Touches g net o
  touches_before net None h = h
  touches_before net (Some p) h = touch_before net p h

  ends_before : (net s : ℕ) (hs : List Hop) → EndsAtRib later net s hs → EndsAtRib g net s hs
  ends_before net s [] h = h
  ends_before net s (k ∷ []) (via, touches) =
      (via, touches_before net (probe_at g.d g.lat net s k.index) touches)
  ends_before net s (k ∷ j ∷ hs) h = ends_before net k.to (j ∷ hs) h

  -- ---- and so are the anchors of an island whose items are all there
  module _ (s : Island) (known : (b : Item) → Contains more b → Contains s.items b.id → ⊥) where
    anchors_before : (node : ℕ) → AnchorsAmong g.d g.lat (g.items ++ more) s.items node
        → AnchorsAmong g.d g.lat g.items s.items node
    anchors_before node h = record {
      item = h.item;
      there = by (Contains-append_cases g.items more h.item h.there);
      asked = h.asked;
      anchors = h.anchors;
    }
      where
        by : Contains g.items h.item ⊎ Contains more h.item → Contains g.items h.item
        by (inl there) = there
        by (inr there) = absurd (known h.item there h.asked)

    start_before : (node : ℕ) → IsStart g.d g.lat (g.items ++ more) s node → IsStart g.d g.lat g.items s node
    start_before node h = record {
      there = h.there;
      anchors = anchors_before node h.anchors;
      legal = legal_before s.net _ h.legal;
    }

    pub stays_shut : HasNoStub g s → HasNoStub later s
    stays_shut h = record {
      none = λ from hops to starts leads ends. h.none from hops to (start_before from starts)
          (leads_before s.net from hops to leads) (ends_before s.net from hops ends);
    }
