-- A walk that passes routed items is a walk over the moves that are legal on the fixed items alone, and has their
-- prices beside its own.
use Rattle.std.proofs.Common.{◌≡◌, ℕ, List, [], ◌∷◌, map, refl, sym, ap, ◌∙◌}
use Rattle.pcb_model.specs.declared.item.Item.{Item}
use Rattle.pcb_model.specs.declared.design.Design.{Design}
use Rattle.route_lattice.specs.declared.moves.Move.{Move}
use Rattle.route_lattice.specs.declared.moves.Walk.{Walk}
use Rattle.route_lattice.specs.Mesh.{Mesh}
use Rattle.route_lattice.specs.Ways.{way}
use Rattle.route_lattice.specs.Walks.{Hop, Opens, Leads, to_of, move_of, cost, IsWalk}
use Rattle.route_lattice.specs.Legal.{way_price, legal_graph}
use Rattle.ripup.specs.Rips.{rip_graph}

module _ (d : Design) (m : Mesh) (items : List Item) (net via_cost penalty : ℕ) where
  -- the hop at the price of its way alone
  abbrev pub unpriced : ℕ → Hop → Hop
  unpriced node h = record h { price = way_price m via_cost node (way d m net node h.index) }

  abbrev pub unpriced_all : ℕ → List Hop → List Hop
  unpriced_all node [] = []
  unpriced_all node (h ∷ hs) = unpriced node h ∷ unpriced_all h.to hs

  pub opens_fixed : (node : ℕ) (h : Hop) → Opens (rip_graph d m items net via_cost penalty) node h
      → Opens (legal_graph d m d.fixed net via_cost) node (unpriced node h)
  opens_fixed node h o = record { listed = o.listed; leads = o.leads; is_open = o.is_open; costs = refl }

  leads_fixed : (a b : ℕ) (hs : List Hop) → Leads (rip_graph d m items net via_cost penalty) a hs b
      → Leads (legal_graph d m d.fixed net via_cost) a (unpriced_all a hs) b
  leads_fixed a b [] h = h
  leads_fixed a b (x ∷ hs) h = (opens_fixed a x h.0, leads_fixed x.to b hs h.1)

  same_nodes : (a : ℕ) (hs : List Hop) → map to_of (unpriced_all a hs) ≡ map to_of hs
  same_nodes a [] = refl
  same_nodes a (x ∷ hs) = ap (λ (ns : List ℕ). x.to ∷ ns) (same_nodes x.to hs)

  same_moves : (a : ℕ) (hs : List Hop) → map move_of (unpriced_all a hs) ≡ map move_of hs
  same_moves a [] = refl
  same_moves a (x ∷ hs) = ap (λ (ms : List Move). x.move ∷ ms) (same_moves x.to hs)

  -- the walk at that price
  abbrev pub unpriced_walk : (starts goals : List ℕ) (w : Walk)
      → IsWalk (rip_graph d m items net via_cost penalty) starts goals w → Walk
  unpriced_walk starts goals w g = record {
    nodes = w.nodes;
    moves = w.moves;
    price = cost
        (unpriced_all g.from g.hops);
  }

  pub on_fixed : (starts goals : List ℕ) (w : Walk)
      → (g : IsWalk (rip_graph d m items net via_cost penalty) starts goals w)
      → IsWalk (legal_graph d m d.fixed net via_cost) starts goals (unpriced_walk starts goals w g)
  on_fixed starts goals w g = record {
    from = g.from;
    hops = unpriced_all g.from g.hops;
    to = g.to;
    starts_in = g.starts_in;
    ends_in = g.ends_in;
    leads = leads_fixed g.from g.to g.hops g.leads;
    nodes = g.nodes ∙ ap (λ (ns : List ℕ). g.from ∷ ns) (sym (same_nodes g.from g.hops));
    moves = g.moves ∙ sym (same_moves g.from g.hops);
    price = refl;
  }
