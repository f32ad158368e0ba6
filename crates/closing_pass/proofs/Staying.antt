-- A net from which no legal walk leads on stays so while items of other nets are laid.
use Rattle.std.proofs.Common.{◌≡◌, inl, inr, ℕ, subst, List, [], ◌∷◌, ◌++◌, Some, None, Option}
use Rattle.std.specs.List.{Contains, remove, slice_get}
use Rattle.std.proofs.lemmas.List.Elements.{Contains-append_left}
use Rattle.pcb_model.specs.declared.item.Item.{Item}
use Rattle.pcb_model.specs.declared.item.Probe.{Probe}
use Rattle.pcb_model.specs.declared.design.Design.{Design}
use Rattle.pcb_model.specs.Copper.{Ascends}
use Rattle.pcb_islands.specs.declared.net.Island.{Island}
use Rattle.pcb_islands.specs.Islands.{AreIslands, pins_of}
use Rattle.pcb_islands.proofs.Gathering.{island_at}
use Rattle.pcb_islands.proofs.Joined.{one_item}
use Rattle.route_lattice.specs.Walks.{Hop, Leads}
use Rattle.route_lattice.specs.Mesh.{Mesh}
use Rattle.route_lattice.specs.Anchors.{AnchorsAmong}
use Rattle.route_lattice.specs.Legal.{IsLegalProbe, IsOpen, probe_at, legal_graph}
use Rattle.cut_certificate.specs.Cuts.{LeadsOn}
use Rattle.closing_pass.specs.inner.Steps.{IsShutAt, IsClosedOn}
use Rattle.closing_pass.proofs.Places.{other_place}

-- an item of the list has the id
record HasItem (items : List Item) (id : ℕ) : Type 0 where
  item : Item
  there : Contains items item
  id_is : item.id ≡ id

-- each id of an island is that of an item
ids_there : (d : Design) (items : List Item) (net : ℕ) (found : List Island) (place : ℕ) (s : Island)
    → AreIslands d items net found → slice_get found place ≡ Some s
    → (id : ℕ) → Contains s.items id → HasItem items id
ids_there d items net found place s islands is id has =
    let joined = ((island_at d items net (pins_of d net) found place s islands is).items_are.exact id).0 has in
    record { item = joined.item; there = joined.there; id_is = joined.id_is }

module _ (d : Design) (m : Mesh) (items later : List Item) (grown : (x : Item) → Contains items x
    → Contains later x) (ascends : Ascends later) where
  among_before : (ids : List ℕ) (node : ℕ) → ((id : ℕ) → Contains ids id → HasItem items id)
      → AnchorsAmong d m later ids node → AnchorsAmong d m items ids node
  among_before ids node all among =
      let has = all among.item.id among.asked in
      let same : has.item ≡ among.item = one_item later ascends has.item among.item (grown has.item has.there)
      among.there has.id_is in
      record {
        item = among.item;
        there = subst (Contains items) same has.there;
        asked = among.asked;
        anchors =
            among.anchors;
      }

  legal_before : (net : ℕ) (p : Probe) → IsLegalProbe d later net p → IsLegalProbe d items net p
  legal_before net p legal = record { agrees = λ b there. legal.agrees b (grown b there); inside = legal.inside }

  open_before : (net : ℕ) (o : Option Probe) → IsOpen d later net o → IsOpen d items net o
  open_before net None is_open = absurd is_open
  open_before net (Some p) is_open = legal_before net p is_open

  moves_before : (net via_cost a b : ℕ) (hops : List Hop) → Leads (legal_graph d m later net via_cost) a hops b
      → Leads (legal_graph d m items net via_cost) a hops b
  moves_before net via_cost a b [] leads = leads
  moves_before net via_cost a b (h ∷ hops) leads = (
    record {
      listed = leads.0.listed;
      leads = leads.0.leads;
      is_open = open_before net (probe_at d m net a h.index)
          leads.0.is_open;
      costs = leads.0.costs;
    },
    moves_before net via_cost h.to b hops leads.1,
  )

  leads_before : (via_cost : ℕ) (island : Island) (others : List Island) → ((id : ℕ) → Contains island.items id
      → HasItem items id)
      → ((o : Island) → Contains others o → (id : ℕ) → Contains o.items id → HasItem items id)
      → LeadsOn d m later via_cost island others → LeadsOn d m items via_cost island others
  leads_before via_cost island others own own_others leads = record {
    from = leads.from;
    hops = leads.hops;
    to = leads.to;
    starts = record {
      there = leads.starts.there;
      anchors = among_before island.items leads.from own
          leads.starts.anchors;
      legal = legal_before island.net _ leads.starts.legal;
    };
    ends = (let a = leads.ends.anchors in record {
      there = leads.ends.there;
      anchors = (a.0, a.1, a.2, a.3, among_before a.1.items leads.to (own_others a.1 (a.0, a.2, a.3)) a.4);
    });
    leads = moves_before island.net via_cost leads.from leads.to leads.hops leads.leads;
  }

  pub shut_later : (via_cost net : ℕ) (found : List Island) → AreIslands d items net found → (place : ℕ)
      → IsShutAt d m via_cost items found place → IsShutAt d m via_cost later found place
  shut_later via_cost net found islands place shut island is leads = shut island is
      (leads_before via_cost island (remove found place)
      (ids_there d items net found place island islands is)
      (λ o there. let at = other_place found place o there in ids_there d items net found at.place o islands
      at.there) leads)

pub closed_later : (d : Design) (m : Mesh) (via_cost : ℕ) (items added : List Item) (net : ℕ) → Ascends (items ++ added)
    → ((found : List Island) → AreIslands d items net found → AreIslands d (items ++ added) net found)
    → IsClosedOn d m via_cost items net → IsClosedOn d m via_cost (items ++ added) net
closed_later d m via_cost items added net ascends stay closed = record {
  found = closed.found;
  islands = stay closed.found closed.islands;
  shut = elim closed.shut [
    | inl few ↦ inl few
    | inr shut ↦ inr (λ place. shut_later d m items (items ++ added) (Contains-append_left items added) ascends
        via_cost net closed.found closed.islands place (shut place))
  ];
}
