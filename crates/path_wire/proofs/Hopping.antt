-- A walk over legal moves, or over legal moves and diagonals, is a walk of the net.
use Rattle.std.proofs.Common.{◌≡◌, ℕ, ◌+◌, ◌-◌, ◌<◌, nat_lt, Option, List, [], ◌∷◌, map, All, refl, sym, ◌∙◌, subst}
use Rattle.std.proofs.Common.{arith, lt-ltb}
use Rattle.std.specs.Prelude.{Contains}
use Rattle.std.specs.Option.{option_map}
use Rattle.std.proofs.lemmas.List.Elements.{All-nil, All-cons}
use Rattle.pcb_model.specs.declared.item.Item.{Item}
use Rattle.pcb_model.specs.declared.design.Design.{Design}
use Rattle.route_lattice.specs.declared.moves.Move.{Move}
use Rattle.route_lattice.specs.declared.moves.Walk.{Walk}
use Rattle.route_lattice.specs.Walks.{MoveGraph, Hop, Opens, Leads, to_of, move_of, IsWalk}
use Rattle.route_lattice.specs.Mesh.{Mesh, node_count}
use Rattle.route_lattice.specs.Legal.{IsLegalProbe, IsOpen, probe_of, legal_graph}
use Rattle.route_lattice.specs.Fits.{FitsDesign}
use Rattle.route_lattice.specs.Ways.{way, way_count}
use Rattle.route_lattice.proofs.Steps.{yes}
use Rattle.route_lattice.proofs.Leading.{way_leads}
use Rattle.path_wire.specs.Diagonals.{wide_way, diagonal_at, wide_graph}
use Rattle.path_wire.proofs.Walking.{move_leads}
use Rattle.path_wire.specs.Wires.{IsMoveOf, MovesLead, IsNetWalk}
use Rattle.path_wire.specs.Lays.{move_probes}
use Rattle.path_wire.specs.Joins.{last_node}

among : {X : Type 0} (P : X → Type 0) (xs : List X) (x : X) → All P xs → Contains xs x → P x
among P xs x h c = subst P c.2 (h c.0 x c.1)

-- ---- moves of the net over a graph
-- each open move is one of the net's, and what it lays is legal
pub record AreMovesOf (d : Design) (m : Mesh) (items : List Item) (net : ℕ) (graph : MoveGraph) : Type 0 where
  pub moves : (v : ℕ) (h : Hop) → Opens graph v h → IsMoveOf d m net v h.move h.to
  pub legal : (v : ℕ) (h : Hop) → Opens graph v h → IsLegalProbe d items net (probe_of d m net v h.move h.to)
  pub leads : (v : ℕ) (h : Hop) → v < node_count m → Opens graph v h → h.to < node_count m

module _ (d : Design) (m : Mesh) (items : List Item) (net : ℕ) (graph : MoveGraph)
    (own : AreMovesOf d m items net graph) where
  hops_lead : (a b : ℕ) (hs : List Hop) → Leads graph a hs b
      → MovesLead d m net (a ∷ map to_of hs) (map move_of hs)
  hops_lead a b [] h = tt
  hops_lead a b (x ∷ hs) h = (own.moves a x h.0, hops_lead x.to b hs h.1)

  hops_there : (a b : ℕ) (hs : List Hop) → a < node_count m → Leads graph a hs b
      → All (λ v. v < node_count m) (a ∷ map to_of hs)
  hops_there a b [] k h = All-cons (λ v. v < node_count m) a [] k (All-nil (λ v. v < node_count m))
  hops_there a b (x ∷ hs) k h =
      All-cons (λ v. v < node_count m) a (map to_of (x ∷ hs)) k
      (hops_there x.to b hs (own.leads a x k h.0) h.1)

  hops_legal : (a b : ℕ) (hs : List Hop) → Leads graph a hs b
      → All (IsLegalProbe d items net) (move_probes d m net (a ∷ map to_of hs) (map move_of hs))
  hops_legal a b [] h = All-nil (IsLegalProbe d items net)
  hops_legal a b (x ∷ hs) h =
      All-cons (IsLegalProbe d items net) (probe_of d m net a x.move x.to)
      (move_probes d m net (x.to ∷ map to_of hs) (map move_of hs))
      (own.legal a x h.0)
      (hops_legal x.to b hs h.1)

  hops_end : (a b : ℕ) (hs : List Hop) → Leads graph a hs b
      → last_node a (map to_of hs) ≡ b
  hops_end a b [] h = h
  hops_end a b (x ∷ hs) h = hops_end x.to b hs h.1

  module _ (starts goals : List ℕ) (w : Walk) where
    pub net_walk_over : All (λ v. v < node_count m) starts → IsWalk graph starts goals w
        → IsNetWalk d m net w.nodes w.moves
    net_walk_over h g = record {
      there = subst (All (λ v. v < node_count m)) (sym g.nodes)
          (hops_there g.from g.to g.hops (among (λ v. v < node_count m) starts g.from h g.starts_in) g.leads);
      leads = subst (λ (ns : List ℕ). MovesLead d m net ns w.moves) (sym g.nodes)
          (subst (MovesLead d m net (g.from ∷ map to_of g.hops)) (sym g.moves) (hops_lead g.from g.to g.hops g.leads));
    }

    pub legal_over : IsWalk graph starts goals w
        → All (IsLegalProbe d items net) (move_probes d m net w.nodes w.moves)
    legal_over g =
        subst (λ (ns : List ℕ). All (IsLegalProbe d items net) (move_probes d m net ns w.moves)) (sym g.nodes)
        (subst (λ (ms : List Move). All (IsLegalProbe d items net) (move_probes d m net (g.from ∷ map to_of g.hops) ms))
        (sym g.moves) (hops_legal g.from g.to g.hops g.leads))

    pub ends_over : IsWalk graph starts goals w
        → (v : ℕ) × (vs : List ℕ) × (w.nodes ≡ v ∷ vs) × Contains starts v × Contains goals (last_node v vs)
    ends_over g = (
      g.from,
      map to_of g.hops,
      g.nodes,
      g.starts_in,
      subst (Contains goals) (sym (hops_end g.from g.to g.hops g.leads)) g.ends_in,
    )

-- ---- legal moves
-- a legal move is one of the net's
wide_same : (d : Design) (m : Mesh) (net v i : ℕ) → i < way_count d m net → wide_way d m net v i ≡ way d m net v i
wide_same d m net v i h = yes (nat_lt i (way_count d m net)) (way d m net v i)
    (diagonal_at m v (4 + (i - way_count d m net))) (way d m net v i) (lt-ltb i (way_count d m net) h) refl

pub legal_moves : (d : Design) (m : Mesh) (items : List Item) (net via_cost : ℕ)
    → AreMovesOf d m items net (legal_graph d m items net via_cost)
legal_moves d m items net via_cost = record {
  moves = λ v h o. record {
    index = h.index;
    listed = let l = o.listed in omega (arith, l);
    leads = wide_same d m net v h.index o.listed ∙ o.leads;
  };
  legal = λ v h o. subst (λ (x : Option (Move × ℕ)).
      IsOpen d items net (option_map (λ (w : Move × ℕ). probe_of d m net v w.0 w.1) x)) o.leads o.is_open;
  leads = λ v h there o. way_leads d m net v h.index h.move h.to there o.leads;
}

-- ---- and those at 45 degrees
pub wide_moves : (d : Design) (m : Mesh) (items : List Item) (net via_cost : ℕ) → FitsDesign d m
    → AreMovesOf d m items net (wide_graph d m items net via_cost)
wide_moves d m items net via_cost fits = record {
  moves = λ v h o. record { index = h.index; listed = o.listed; leads = o.leads };
  legal = λ v h o. subst (λ (x : Option (Move × ℕ)).
      IsOpen d items net (option_map (λ (w : Move × ℕ). probe_of d m net v w.0 w.1) x)) o.leads o.is_open;
  leads = λ v h there o. move_leads d m net fits v h.to h.move there
      (record { index = h.index; listed = o.listed; leads = o.leads });
}

module _ (d : Design) (m : Mesh) (items : List Item) (net via_cost : ℕ) (starts goals : List ℕ) (w : Walk) where
  pub walk_of_net : All (λ v. v < node_count m) starts → IsWalk (legal_graph d m items net via_cost) starts goals w
      → IsNetWalk d m net w.nodes w.moves
  walk_of_net h g = net_walk_over d m items net (legal_graph d m items net via_cost)
      (legal_moves d m items net via_cost) starts goals w h g

  pub walk_legal : IsWalk (legal_graph d m items net via_cost) starts goals w
      → All (IsLegalProbe d items net) (move_probes d m net w.nodes w.moves)
  walk_legal g = legal_over d m items net (legal_graph d m items net via_cost)
      (legal_moves d m items net via_cost) starts goals w g

  pub walk_ends : IsWalk (legal_graph d m items net via_cost) starts goals w
      → (v : ℕ) × (vs : List ℕ) × (w.nodes ≡ v ∷ vs) × Contains starts v × Contains goals (last_node v vs)
  walk_ends g = ends_over d m items net (legal_graph d m items net via_cost)
      (legal_moves d m items net via_cost) starts goals w g

module _ (d : Design) (m : Mesh) (items : List Item) (net via_cost : ℕ) (starts goals : List ℕ) (w : Walk)
    (fits : FitsDesign d m) where
  pub wide_walk_of_net : All (λ v. v < node_count m) starts
      → IsWalk (wide_graph d m items net via_cost) starts goals w → IsNetWalk d m net w.nodes w.moves
  wide_walk_of_net h g = net_walk_over d m items net (wide_graph d m items net via_cost)
      (wide_moves d m items net via_cost fits) starts goals w h g

  pub wide_walk_legal : IsWalk (wide_graph d m items net via_cost) starts goals w
      → All (IsLegalProbe d items net) (move_probes d m net w.nodes w.moves)
  wide_walk_legal g = legal_over d m items net (wide_graph d m items net via_cost)
      (wide_moves d m items net via_cost fits) starts goals w g

  pub wide_walk_ends : IsWalk (wide_graph d m items net via_cost) starts goals w
      → (v : ℕ) × (vs : List ℕ) × (w.nodes ≡ v ∷ vs) × Contains starts v × Contains goals (last_node v vs)
  wide_walk_ends g = ends_over d m items net (wide_graph d m items net via_cost)
      (wide_moves d m items net via_cost fits) starts goals w g
