-- Walks of the graph of stubs are the legal walks to vias that touch a rib.
use Rattle.std.proofs.Common.{◌≡◌, ℕ, zero, suc, ◌<◌, ◌≤◌, ◌+◌, ◌-◌, ◌/◌, ◌%◌, arith, refl, sym, ap, ◌∙◌, subst, Bool}
use Rattle.std.proofs.Common.{true, false, cond, List, [], ◌∷◌, ◌++◌, length, map, Contains, Option, Some, None}
use Rattle.std.specs.Prelude.{nat_lt, slice_get, slice_index}
use Rattle.std.proofs.lemmas.Bool.{le-ltb, lt-ltb, ltb-false, ltb-true}
use Rattle.std.proofs.lemmas.List.{length-map, same_from_push}
use Rattle.std.proofs.lemmas.Option.{cond_some, same_Some, some_pair_parts}
use Rattle.pcb_model.specs.Pieces.{padstack_pieces}
use Rattle.pcb_islands.specs.declared.net.Island.{Island}
use Rattle.route_lattice.specs.declared.moves.Move.{Move}
use Rattle.route_lattice.specs.declared.moves.Move.TheVariants.{Step, Via}
use Rattle.route_lattice.specs.declared.moves.Walk.{Walk}
use Rattle.route_lattice.specs.Legal.{move_price, probe_at, way_price}
use Rattle.route_lattice.specs.Mesh.{column, layer_of, node_at, node_count, point_of, row}
use Rattle.route_lattice.specs.Walks.{Hop, IsLeastWalk, IsSound, Leads, NoneLeads, Opens, cost, move_of, to_of}
use Rattle.route_lattice.specs.Ways.{can_join, step_at, via_at, vias_of, way, way_count}
use Rattle.cut_certificate.specs.Cuts.{AreStarts}
use Rattle.plane_joins.specs.Stubs.{EndsAtRib, HasNoStub, IsLeastStub, RibGround, Touches, moves_on}
use Rattle.plane_joins.specs.inner.Graph.{CanEnd, IsEnd, stub_graph, stub_price, stub_way, to_last}
use Rattle.plane_joins.specs.inner.Serving.{LandsAs}

-- ---- lists
only_one : (x y : ℕ) → Contains (x ∷ []) y → y ≡ x
only_one x y (zero, within, is) = sym is
only_one x y (suc k, within, is) = absurd (omega (arith, within))

-- the node that the last of the hops leaves
abbrev pub end_node : ℕ → List Hop → ℕ
end_node s [] = s
end_node s (h ∷ []) = s
end_node s (h ∷ k ∷ hs) = end_node h.to (k ∷ hs)

at_end_node : (s : ℕ) (hs : List Hop) (n : ℕ) → suc n ≡ length hs
    → slice_get (s ∷ map to_of hs) n ≡ Some (end_node s hs)
at_end_node s [] n e = absurd (omega (arith, e))
at_end_node s (h ∷ []) zero e = refl
at_end_node s (h ∷ []) (suc n) e = absurd (omega (arith, e))
at_end_node s (h ∷ k ∷ hs) zero e = absurd (omega (arith, e))
at_end_node s (h ∷ k ∷ hs) (suc n) e = at_end_node h.to (k ∷ hs) n (omega (arith, e))

-- legal hops in place of those of the graph, of which the last is a via that leads there
pub record Landed (g : RibGround) (net s : ℕ) (hs : List Hop) (mv : Move) (to : ℕ) : Type 0 where
  pub hops : List Hop
  pub leads : Leads (moves_on g net) s hops to
  pub ends : EndsAtRib g net s hops
  pub cost_is : cost hops ≡ cost hs
  pub before : List Move
  pub last : Move
  pub moves_were : map move_of hs ≡ before ++ last ∷ []
  pub moves_are : map move_of hops ≡ before ++ mv ∷ []
  pub front : List ℕ
  pub end : ℕ
  pub nodes_were : map to_of hs ≡ front ++ end ∷ []
  pub nodes_are : map to_of hops ≡ front ++ to ∷ []

-- the last of the hops leaves a node of the lattice that has a legal via that touches a rib
pub record EndsLegal (g : RibGround) (net s : ℕ) (hs : List Hop) : Type 0 where
  pub some : 1 ≤ length hs
  pub there : end_node s hs < node_count g.lat
  pub can : CanEnd g net (end_node s hs)

module _ (g : RibGround) (net : ℕ) where
  abbrev nodes : ℕ
  nodes = node_count g.lat

  abbrev ways : ℕ
  ways = way_count g.d g.lat net

  abbrev way_at : ℕ → ℕ → Option (Move × ℕ)
  way_at node i = way g.d g.lat net node i

  -- ---- where the moves lead, and what they cost
  way_first : (node i : ℕ) → node < nodes → i < ways → stub_way g net node i ≡ way_at node i
  way_first node i h k =
      ap (λ (b : Bool). cond b (cond (nat_lt i ways) (way_at node i) (Some (to_last g))) None) (lt-ltb node nodes h)
      ∙ ap (λ (b : Bool). cond b (way_at node i) (Some (to_last g))) (lt-ltb i ways k)

  way_later : (node i : ℕ) → node < nodes → ways ≤ i → stub_way g net node i ≡ Some (to_last g)
  way_later node i h k =
      ap (λ (b : Bool). cond b (cond (nat_lt i ways) (way_at node i) (Some (to_last g))) None) (lt-ltb node nodes h)
      ∙ ap (λ (b : Bool). cond b (way_at node i) (Some (to_last g))) (le-ltb i ways k)

  -- nothing leaves the last node
  way_none : (i : ℕ) → stub_way g net nodes i ≡ None
  way_none i =
      ap (λ (b : Bool). cond b (cond (nat_lt i ways) (way_at nodes i) (Some (to_last g))) None)
      (le-ltb nodes nodes (omega arith))

  abbrev price_at : ℕ → ℕ → ℕ
  price_at node i = way_price g.lat g.via_cost node (way_at node i)

  price_first : (node i : ℕ) → node < nodes → i < ways → stub_price g net node i ≡ price_at node i
  price_first node i h k =
      ap (λ (b : Bool). cond b (cond (nat_lt i ways) (price_at node i) g.via_cost) 0) (lt-ltb node nodes h)
      ∙ ap (λ (b : Bool). cond b (price_at node i) g.via_cost) (lt-ltb i ways k)

  price_later : (node i : ℕ) → node < nodes → ways ≤ i → stub_price g net node i ≡ g.via_cost
  price_later node i h k =
      ap (λ (b : Bool). cond b (cond (nat_lt i ways) (price_at node i) g.via_cost) 0) (lt-ltb node nodes h)
      ∙ ap (λ (b : Bool). cond b (price_at node i) g.via_cost) (le-ltb i ways k)

  -- from index 4 on a move is a via
  is_via : (node j : ℕ) (mv : Move) (to : ℕ) → 4 ≤ j → way_at node j ≡ Some (mv, to)
      → (p : ℕ) × (l : ℕ) × (mv ≡ Via p l)
  is_via node j mv to h e =
      let p = slice_index (vias_of g.d net) ((j - 4) / length g.lat.layers) in
      let t = (j - 4) % length g.lat.layers in
      let l = slice_index g.lat.layers t in
      let can = can_join (padstack_pieces g.d p) (point_of g.lat node) (layer_of g.lat node) l in
      let x : Move × ℕ = (Via p l, node_at g.lat t (row g.lat node) (column g.lat node)) in
      let via : cond can (Some x) None ≡ Some (mv, to) =
      sym (ap (λ (b : Bool). cond b (step_at g.lat node j) (via_at g.d g.lat node p t)) (le-ltb j 4 h)) ∙ e in
      let same = (cond_some can x (mv, to) via).1 in
      (p, l, sym (ap (λ (w : Move × ℕ). w.0) same))

  -- and costs as much as any
  via_price : (node j : ℕ) (mv : Move) (to : ℕ) → 4 ≤ j → way_at node j ≡ Some (mv, to)
      → price_at node j ≡ g.via_cost
  via_price node j mv to h e =
      let v = is_via node j mv to h e in
      ap (way_price g.lat g.via_cost node) e ∙ ap (λ (m : Move). move_price g.lat g.via_cost node m to) v.2

  -- ---- one hop
  -- a hop by one of the first indices is a legal move
  legal_hop : (node : ℕ) (h : Hop) → node < nodes → h.index < ways → Opens (stub_graph g net) node h
      → Opens (moves_on g net) node h
  legal_hop node h there first o = record {
    listed = first;
    leads = sym (way_first node h.index there first) ∙ o.leads;
    is_open = o.is_open.legal first;
    costs = o.costs ∙ price_first node h.index there first;
  }

  -- and the other way round
  stub_hop : (node : ℕ) (h : Hop) → node < nodes → Opens (moves_on g net) node h → Opens (stub_graph g net) node h
  stub_hop node h there o =
      let first = o.listed in record {
        listed = omega (arith, first);
        leads = way_first node h.index there first ∙ o.leads;
        is_open = record {
          within = there;
          legal = λ _. o.is_open;
          ends = λ past. absurd (omega (arith, past, first));
        };
        costs = o.costs ∙ sym (price_first node h.index there first);
      }

  -- a legal hop by a via that touches a rib, as one to the last node
  stub_end : (node : ℕ) (h : Hop) → node < nodes → Opens (moves_on g net) node h → 4 ≤ h.index
      → Touches g net (probe_at g.d g.lat net node h.index)
      → Opens (stub_graph g net) node (record { index = ways; move = Step 0; to = nodes; price = h.price })
  stub_end node h there o via touches =
      let past : ways ≤ ways = omega arith in record {
        listed = omega arith;
        leads = way_later node ways there past;
        is_open = record {
          within = there;
          legal = λ first. absurd (omega (arith, first));
          ends = λ _. record {
            index = h.index;
            ends = record { from_vias = via; listed = o.listed; legal = o.is_open; touches = touches };
          };
        };
        costs = o.costs ∙ via_price node h.index h.move h.to via o.leads ∙ sym (price_later node ways there past);
      }

  -- ---- from legal walks to walks of the graph
  pub stub_leads : IsSound (moves_on g net) → (s : ℕ) (hs : List Hop) (t : ℕ) → s < nodes
      → Leads (moves_on g net) s hs t → EndsAtRib g net s hs
      → (ks : List Hop) × Leads (stub_graph g net) s ks nodes × (cost ks ≡ cost hs)
  stub_leads sound s [] t there leads ends = absurd ends
  stub_leads sound s (h ∷ []) t there (o, rest) (via, touches) =
      let last : Hop = record { index = ways; move = Step 0; to = nodes; price = h.price } in
      (last ∷ [], (stub_end s h there o via touches, refl), refl)
  stub_leads sound s (h ∷ k ∷ hs) t there (o, rest) ends =
      let there_too = sound.leads s h.index h.move h.to there o.listed o.leads in
      let next = stub_leads sound h.to (k ∷ hs) t there_too rest ends in
      (h ∷ next.0, (stub_hop s h there o, next.1), ap (λ (n : ℕ). h.price + n) next.2)

  -- ---- and back
  ends_on : (s : ℕ) (h : Hop) (hs : List Hop) → EndsAtRib g net h.to hs → EndsAtRib g net s (h ∷ hs)
  ends_on s h [] ends = absurd ends
  ends_on s h (k ∷ hs) ends = ends

  inside_end : (n : ℕ) → n ≡ nodes → n < nodes → ⊥
  inside_end n e h = omega (arith, e, h)

  -- a hop that isn't the last is a legal one
  inner_hop : (s : ℕ) (h k : Hop) → s < nodes → Opens (stub_graph g net) s h → Opens (stub_graph g net) h.to k
      → Opens (moves_on g net) s h
  inner_hop s h k there o next = by (nat_lt h.index ways) refl
    where
      by : (b : Bool) → nat_lt h.index ways ≡ b → Opens (moves_on g net) s h
      by true e = legal_hop s h there (ltb-true h.index ways e) o
      by false e =
          let past = ltb-false h.index ways e in
          let at_last : nodes ≡ h.to =
          (some_pair_parts (Step 0) h.move nodes h.to (sym (way_later s h.index there past) ∙ o.leads)).1 in
          let there_next = next.is_open.within in
          absurd (inside_end h.to (sym at_last) there_next)

  -- and the last one leads to the last node
  last_past : IsSound (moves_on g net) → (s : ℕ) (h : Hop) → s < nodes → Opens (stub_graph g net) s h → h.to ≡ nodes
      → ways ≤ h.index
  last_past sound s h there o rest = by (nat_lt h.index ways) refl
    where
      by : (b : Bool) → nat_lt h.index ways ≡ b → ways ≤ h.index
      by true e =
          let first = ltb-true h.index ways e in
          absurd (inside_end h.to rest
          (sound.leads s h.index h.move h.to there first (legal_hop s h there first o).leads))
      by false e = ltb-false h.index ways e

  pub ends_legal : IsSound (moves_on g net) → (s : ℕ) (hs : List Hop) → s < nodes
      → Leads (stub_graph g net) s hs nodes → EndsLegal g net s hs
  ends_legal sound s [] there leads = absurd (inside_end s leads there)
  ends_legal sound s (h ∷ []) there (o, rest) = record {
    some = omega arith;
    there = there;
    can = o.is_open.ends (last_past sound s h there o rest);
  }
  ends_legal sound s (h ∷ k ∷ hs) there (o, rest) =
      let legal = inner_hop s h k there o rest.0 in
      let on = ends_legal sound h.to (k ∷ hs) (sound.leads s h.index h.move h.to there legal.listed legal.leads)
      rest in record {
        some = omega arith;
        there = on.there;
        can = on.can;
      }

  landed_end : (s : ℕ) (h : Hop) (mv : Move) (to : ℕ) → s < nodes → ways ≤ h.index → Opens (stub_graph g net) s h
      → IsEnd g net s mv to → Landed g net s (h ∷ []) mv to
  landed_end s h mv to there past o land =
      let j = land.index in
      let hop : Hop = record { index = j; move = mv; to = to; price = h.price } in record {
        hops = hop ∷ [];
        leads = (
          record {
            listed = land.ends.listed;
            leads = land.leads;
            is_open = land.ends.legal;
            costs = o.costs ∙ price_later s h.index there past
                ∙ sym (via_price s j mv to land.ends.from_vias land.leads);
          },
          refl,
        );
        ends = (land.ends.from_vias, land.ends.touches);
        cost_is = refl;
        before = [];
        last = h.move;
        moves_were = refl;
        moves_are = refl;
        front = [];
        end = h.to;
        nodes_were = refl;
        nodes_are = refl;
      }

  landed_on : (s : ℕ) (h : Hop) (hs : List Hop) (mv : Move) (to : ℕ) → Opens (moves_on g net) s h
      → Landed g net h.to hs mv to → Landed g net s (h ∷ hs) mv to
  landed_on s h hs mv to o next = record {
    hops = h ∷ next.hops;
    leads = (o, next.leads);
    ends = ends_on s h next.hops next.ends;
    cost_is = ap (λ (n : ℕ). h.price + n) next.cost_is;
    before = h.move ∷ next.before;
    last = next.last;
    moves_were = ap (λ (ms : List Move). h.move ∷ ms) next.moves_were;
    moves_are = ap (λ (ms : List Move). h.move ∷ ms) next.moves_are;
    front = h.to ∷ next.front;
    end = next.end;
    nodes_were = ap (λ (vs : List ℕ). h.to ∷ vs) next.nodes_were;
    nodes_are = ap (λ (vs : List ℕ). h.to ∷ vs) next.nodes_are;
  }

  pub landed : IsSound (moves_on g net) → (s : ℕ) (hs : List Hop) (mv : Move) (to : ℕ) → s < nodes
      → Leads (stub_graph g net) s hs nodes → IsEnd g net (end_node s hs) mv to → Landed g net s hs mv to
  landed sound s [] mv to there leads land = absurd (inside_end s leads there)
  landed sound s (h ∷ []) mv to there (o, rest) land =
      landed_end s h mv to there (last_past sound s h there o rest) o land
  landed sound s (h ∷ k ∷ hs) mv to there (o, rest) land =
      let legal = inner_hop s h k there o rest.0 in
      landed_on s h (k ∷ hs) mv to legal
      (landed sound h.to (k ∷ hs) mv to (sound.leads s h.index h.move h.to there legal.listed legal.leads)
      rest land)

-- ---- of an island
-- the node that the last hop of a walk leaves is at its end
pub at_end : (w : Walk) (s : ℕ) (hs : List Hop) → w.nodes ≡ s ∷ map to_of hs → w.moves ≡ map move_of hs
    → 1 ≤ length hs → slice_get w.nodes (length w.moves - 1) ≡ Some (end_node s hs)
at_end w s hs nodes moves some =
    let few : length w.moves ≡ length hs = ap length moves ∙ length-map hs move_of in
    ap (λ (vs : List ℕ). slice_get vs (length w.moves - 1)) nodes
    ∙ at_end_node s hs (length w.moves - 1) (omega (arith, few, some))

module _ (g : RibGround) (s : Island) (starts : List ℕ) (are : AreStarts g.d g.lat g.items s starts)
    (sound : IsSound (moves_on g s.net)) where
  -- where no walk of the graph leads on, no stub does
  pub no_stub : NoneLeads (stub_graph g s.net) starts (node_count g.lat ∷ []) → HasNoStub g s
  no_stub none = record {
    none = λ from hops to start leads ends.
        let k = stub_leads g s.net sound from hops to start.there leads ends in
        none from k.0 (node_count g.lat) ((are.exact from).1 start) (0, omega arith, refl) k.1;
  }

  -- a least walk of the graph is one, with that via in place of its last move
  pub stub_walk : (w v : Walk) → IsLeastWalk (stub_graph g s.net) starts (node_count g.lat ∷ []) w
      → LandsAs g s.net w v → IsLeastStub g s v
  stub_walk w v h lands =
      let to_end : h.walk.to ≡ node_count g.lat = only_one (node_count g.lat) h.walk.to h.walk.ends_in in
      let start = (are.exact h.walk.from).0 h.walk.starts_in in
      let leads = subst (Leads (stub_graph g s.net) h.walk.from h.walk.hops) to_end h.walk.leads in
      let legal = ends_legal g s.net sound h.walk.from h.walk.hops start.there leads in
      let node : lands.node ≡ end_node h.walk.from h.walk.hops =
      same_Some lands.node (end_node h.walk.from h.walk.hops)
      (sym lands.at_end ∙ at_end w h.walk.from h.walk.hops h.walk.nodes h.walk.moves legal.some) in
      let l = landed g s.net sound h.walk.from h.walk.hops lands.mv lands.to start.there leads
      (subst (λ (n : ℕ). IsEnd g s.net n lands.mv lands.to) node lands.ends) in
      let fronts : lands.front ≡ h.walk.from ∷ l.front =
      (same_from_push lands.front (h.walk.from ∷ l.front) lands.end l.end
      (sym lands.nodes_were ∙ h.walk.nodes ∙ ap (λ (vs : List ℕ). h.walk.from ∷ vs) l.nodes_were)).0 in
      let befores : lands.before ≡ l.before =
      (same_from_push lands.before l.before lands.last l.last
      (sym lands.moves_were ∙ h.walk.moves ∙ l.moves_were)).0 in record {
        leads = record {
          from = h.walk.from;
          hops = l.hops;
          to = lands.to;
          starts = start;
          leads = l.leads;
          ends = l.ends;
          nodes = lands.nodes_are ∙ ap (λ (vs : List ℕ). vs ++ lands.to ∷ []) fronts
              ∙ ap (λ (vs : List ℕ). h.walk.from ∷ vs) (sym l.nodes_are);
          moves = lands.moves_are ∙ ap (λ (ms : List Move). ms ++ lands.mv ∷ []) befores ∙ sym l.moves_are;
          price = lands.price ∙ h.walk.price ∙ sym l.cost_is;
        };
        least = λ from hops end begins leads ends.
            let k = stub_leads g s.net sound from hops end begins.there leads ends in
            let less = h.least from k.0 (node_count g.lat) ((are.exact from).1 begins) (0, omega arith, refl) k.1 in
            subst (λ (n : ℕ). v.price ≤ n) k.2 (subst (λ (n : ℕ). n ≤ cost k.0) (sym lands.price) less);
      }
