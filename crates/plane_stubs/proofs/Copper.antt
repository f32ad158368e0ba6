-- The copper of a stub: what it agrees with, and that it leads from its island to a rib.
use Rattle.std.proofs.Common.{◌≡◌, ℕ, ◌+◌, ◌-◌, ◌/◌, ◌%◌, ◌<◌, ◌≤◌, arith, refl, sym, ap, ◌∙◌, subst, Bool, true, false}
use Rattle.std.proofs.Common.{List, [], ◌∷◌}
use Rattle.std.proofs.Common.{cond, inl, inr, length, map, All, Contains, Option, Some, None}
use Rattle.std.specs.Prelude.{slice_index}
use Rattle.std.specs.Option.{option_map}
use Rattle.std.proofs.lemmas.Bool.{le-ltb}
use Rattle.std.proofs.lemmas.Option.{cond_some}
use Rattle.std.proofs.lemmas.List.Elements.{All-cons, All-head, All-nil, All-tail}
use Rattle.pcb_model.specs.declared.item.Item.{Item}
use Rattle.pcb_model.specs.declared.item.Probe.{Probe}
use Rattle.pcb_model.specs.declared.item.Probe.TheVariants as probe
use Rattle.pcb_model.specs.declared.item.Metal.{Metal}
use Rattle.pcb_model.specs.declared.item.Metal.TheVariants as metal
use Rattle.pcb_model.specs.declared.design.Design.{Design}
use Rattle.pcb_model.specs.Board.{AreJoined, IsMetalLaid}
use Rattle.pcb_model.specs.Pairs.{Agrees, AreTouching}
use Rattle.pcb_model.specs.Pieces.{padstack_pieces}
use Rattle.pcb_model.specs.Plain.{IsPlainCopper, IsPlainItem}
use Rattle.pcb_model.specs.Rules.{width_for}
use Rattle.pcb_model.specs.Sound.{IsSound}
use Rattle.pcb_model.proofs.Symmetry.{touching_swapped}
use Rattle.pcb_islands.specs.declared.net.Island.{Island}
use Rattle.pcb_islands.proofs.Elements.{in_cons, in_here, in_later}
use Rattle.pcb_islands.proofs.Joined.{joined_back, joined_by_touch, joined_on, joined_self}
use Rattle.route_lattice.specs.declared.moves.Move.{Move}
use Rattle.route_lattice.specs.declared.moves.Move.TheVariants as move
use Rattle.route_lattice.specs.declared.moves.Walk.{Walk}
use Rattle.route_lattice.specs.Fits.{FitsDesign}
use Rattle.route_lattice.specs.Legal.{IsLegalProbe, disc_at, probe_at, probe_of}
use Rattle.route_lattice.specs.Mesh.{Mesh, column, layer_of, node_at, node_count, point_of, row}
use Rattle.route_lattice.specs.Walks.{Hop, Leads, Opens, move_of, to_of}
use Rattle.route_lattice.specs.Ways.{can_join, step_at, via_at, vias_of, way}
use Rattle.path_wire.specs.Joins.{Connect, HasNode, last_node}
use Rattle.path_wire.specs.Lays.{IsMetalInside, IsWellLaid, IsWireOrVia, laid_item, move_probes, walk_probes}
use Rattle.path_wire.specs.Wires.{IsNetWalk, copper_from, copper_of}
use Rattle.path_wire.proofs.Agreeing.{walk_agrees, walk_inside}
use Rattle.path_wire.proofs.Fitted.{walk_laid}
use Rattle.path_wire.proofs.Hopping.{walk_legal, walk_of_net}
use Rattle.path_wire.proofs.Joining.{walk_connects}
use Rattle.path_wire.proofs.Touching.{anchored_touches, neighbours_touch}
use Rattle.path_wire.proofs.Widths.{routes}
use Rattle.plane_joins.specs.Stubs.{EndsAtRib, IsStubWalk, RibGround, Touches, TouchesRib, laid_from, moves_on}
use Rattle.plane_stubs.proofs.Walks.{walk_of}

-- ---- items of metals
module _ (d : Design) (net : ℕ) where
  -- what holds of the item of each metal, whatever its id, holds of all of them
  pub all_laid : (P : Item → Type 0) (id : ℕ) (ms : List Metal)
      → ((i : ℕ) → All (λ (a : Metal). P (laid_item d net i a)) ms) → All P (laid_from d net id ms)
  all_laid P id [] h = All-nil P
  all_laid P id (a ∷ ms) h =
      All-cons P (laid_item d net id a) (laid_from d net (id + 1) ms)
      (All-head (λ (x : Metal). P (laid_item d net id x)) a ms (h id))
      (all_laid P (id + 1) ms (λ i. All-tail (λ (x : Metal). P (laid_item d net i x)) a ms (h i)))

  -- a metal is laid with some id
  pub laid_of : (id : ℕ) (ms : List Metal) (a : Metal) → Contains ms a
      → (i : ℕ) × Contains (laid_from d net id ms) (laid_item d net i a)
  laid_of id [] a h = absurd (omega (arith, h.1))
  laid_of id (x ∷ ms) a h = elim (in_cons x a ms h) [
    | inl same ↦ (
      id,
      subst (λ (y : Metal). Contains (laid_from d net id (x ∷ ms)) (laid_item d net id y)) same
          (in_here (laid_item d net id x) (laid_from d net (id + 1) ms)),
    )
    | inr more ↦ let r = laid_of (id + 1) ms a more in
        (r.0, in_later (laid_item d net id x) (laid_item d net r.0 a) (laid_from d net (id + 1) ms) r.1)
  ]

-- ---- they hang together
module _ (d : Design) (m : Mesh) (net : ℕ) (sound : IsSound d) (plain : IsPlainCopper d) where
  abbrev IsOfNet : Metal → Type 0
  IsOfNet a = IsMetalLaid d (Some net) a

  pub first_has : (v w : ℕ) (a : Metal) (ms : List Metal) → Connect d m v (a ∷ ms) w → HasNode d m v a
  first_has v w a [] connect = connect.0
  first_has v w a (c ∷ ms) connect = connect.0

  -- the first is joined to each
  pub first_joined : (later : List Item) (id v w : ℕ) (a : Metal) (ms : List Metal) → Connect d m v (a ∷ ms) w
      → All IsOfNet (a ∷ ms) → All (Contains later) (laid_from d net id (a ∷ ms)) → (x : Item)
      → Contains (laid_from d net id (a ∷ ms)) x → AreJoined later (laid_item d net id a) x
  first_joined later id v w a [] connect own there x h =
      elim (in_cons (laid_item d net id a) x [] h) [
        | inl same ↦ subst (AreJoined later (laid_item d net id a)) same (joined_self later (laid_item d net id a))
        | inr none ↦ absurd (omega (arith, none.1))
      ]
  first_joined later id v w a (c ∷ ms) connect own there x h =
      elim (in_cons (laid_item d net id a) x (laid_from d net (id + 1) (c ∷ ms)) h) [
        | inl same ↦ subst (AreJoined later (laid_item d net id a)) same (joined_self later (laid_item d net id a))
        | inr more ↦
            let rest = All-tail (Contains later) (laid_item d net id a) (laid_from d net (id + 1) (c ∷ ms)) there in
            let c_there =
            All-head (Contains later) (laid_item d net (id + 1) c) (laid_from d net ((id + 1) + 1) ms) rest in
            let own_rest = All-tail IsOfNet a (c ∷ ms) own in
            joined_on later (laid_item d net id a) (laid_item d net (id + 1) c) x
            (joined_by_touch later (laid_item d net id a) (laid_item d net (id + 1) c) c_there
            (neighbours_touch d m net id (id + 1) connect.1 a c sound plain (All-head IsOfNet a (c ∷ ms) own)
            (All-head IsOfNet c ms own_rest) connect.2 (first_has connect.1 w c ms connect.3)))
            (first_joined later (id + 1) connect.1 w c ms connect.3 own_rest rest x more)
      ]

-- ---- the via at a walk's end
module _ (m : Mesh) (width : ℕ) where
  copper_on : (fresh : Bool) (v : ℕ) (mv : Move) (vs : List ℕ) (ms : List Move) (x : Metal)
      → ((b : Bool) → Contains (copper_from m width b vs ms) x)
      → Contains (copper_from m width fresh (v ∷ vs) (mv ∷ ms)) x
  copper_on true v (move.Via p l) vs ms x rest =
      in_later (metal.Via p (point_of m v)) x (copper_from m width true vs ms) (rest true)
  copper_on false v (move.Via p l) vs ms x rest =
      in_later (metal.Via p (point_of m v)) x (copper_from m width true vs ms) (rest true)
  copper_on true v (move.Step dir) vs ms x rest = in_later _ x (copper_from m width false vs ms) (rest false)
  copper_on false v (move.Step dir) vs ms x rest = rest false

  via_here : (fresh : Bool) (v p l : ℕ) (vs : List ℕ) (ms : List Move)
      → Contains (copper_from m width fresh (v ∷ vs) (move.Via p l ∷ ms)) (metal.Via p (point_of m v))
  via_here true v p l vs ms = in_here (metal.Via p (point_of m v)) (copper_from m width true vs ms)
  via_here false v p l vs ms = in_here (metal.Via p (point_of m v)) (copper_from m width true vs ms)

-- a via of the walk's copper that touches a rib
pub record LaysEnd (g : RibGround) (net : ℕ) (ms : List Metal) : Type 0 where
  pub padstack : ℕ
  pub node : ℕ
  pub laid : Contains ms (metal.Via padstack (point_of g.lat node))
  pub touches : TouchesRib g net (probe.Via padstack (point_of g.lat node))

module _ (g : RibGround) (net width : ℕ) where
  -- from index 4 on a move is a via
  is_via : (node j : ℕ) (mv : Move) (to : ℕ) → 4 ≤ j → way g.d g.lat net node j ≡ Some (mv, to)
      → (p : ℕ) × (l : ℕ) × (mv ≡ move.Via p l)
  is_via node j mv to h e =
      let p = slice_index (vias_of g.d net) ((j - 4) / length g.lat.layers) in
      let t = (j - 4) % length g.lat.layers in
      let l = slice_index g.lat.layers t in
      let can = can_join (padstack_pieces g.d p) (point_of g.lat node) (layer_of g.lat node) l in
      let x : Move × ℕ = (move.Via p l, node_at g.lat t (row g.lat node) (column g.lat node)) in
      let via : cond can (Some x) None ≡ Some (mv, to) =
      sym (ap (λ (b : Bool). cond b (step_at g.lat node j) (via_at g.d g.lat node p t)) (le-ltb j 4 h)) ∙ e in
      let same = (cond_some can x (mv, to) via).1 in
      (p, l, sym (ap (λ (w : Move × ℕ). w.0) same))

  -- from the last hop
  end_here : (fresh : Bool) (s : ℕ) (h : Hop) → Opens (moves_on g net) s h → 4 ≤ h.index
      → Touches g net (probe_at g.d g.lat net s h.index)
      → LaysEnd g net (copper_from g.lat width fresh (s ∷ h.to ∷ []) (h.move ∷ []))
  end_here fresh s h o via touches =
      let v = is_via s h.index h.move h.to via o.leads in
      let at : probe_at g.d g.lat net s h.index ≡ Some (probe_of g.d g.lat net s h.move h.to) =
      ap (λ (x : Option (Move × ℕ)). option_map (λ (w : Move × ℕ). probe_of g.d g.lat net s w.0 w.1) x) o.leads in
      let is : probe_at g.d g.lat net s h.index ≡ Some (probe.Via v.0 (point_of g.lat s)) =
      at ∙ ap (λ (mv : Move). Some (probe_of g.d g.lat net s mv h.to)) v.2 in
      record {
        padstack = v.0;
        node = s;
        laid = subst (λ (mv : Move).
            Contains (copper_from g.lat width fresh (s ∷ h.to ∷ []) (mv ∷ [])) (metal.Via v.0 (point_of g.lat s)))
            (sym v.2) (via_here g.lat width fresh s v.0 v.1 (h.to ∷ []) []);
        touches = subst (Touches g net) is touches;
      }

  end_on : (fresh : Bool) (s : ℕ) (mv : Move) (vs : List ℕ) (ms : List Move)
      → ((b : Bool) → LaysEnd g net (copper_from g.lat width b vs ms))
      → LaysEnd g net (copper_from g.lat width fresh (s ∷ vs) (mv ∷ ms))
  end_on true s (move.Via p l) vs ms rest = let r = rest true in record {
    padstack = r.padstack;
    node = r.node;
    laid = in_later (metal.Via p (point_of g.lat s)) (metal.Via r.padstack (point_of g.lat r.node))
        (copper_from g.lat width true vs ms) r.laid;
    touches = r.touches;
  }
  end_on false s (move.Via p l) vs ms rest = let r = rest true in record {
    padstack = r.padstack;
    node = r.node;
    laid = in_later (metal.Via p (point_of g.lat s)) (metal.Via r.padstack (point_of g.lat r.node))
        (copper_from g.lat width true vs ms) r.laid;
    touches = r.touches;
  }
  end_on true s (move.Step dir) vs ms rest = let r = rest false in record {
    padstack = r.padstack;
    node = r.node;
    laid = in_later _ (metal.Via r.padstack (point_of g.lat r.node)) (copper_from g.lat width false vs ms) r.laid;
    touches = r.touches;
  }
  end_on false s (move.Step dir) vs ms rest = rest false

  hops_end : (fresh : Bool) (s : ℕ) (hs : List Hop) (t : ℕ) → Leads (moves_on g net) s hs t → EndsAtRib g net s hs
      → LaysEnd g net (copper_from g.lat width fresh (s ∷ map to_of hs) (map move_of hs))
  hops_end fresh s [] t leads ends = absurd ends
  hops_end fresh s (h ∷ []) t (o, rest) (via, touches) = end_here fresh s h o via touches
  hops_end fresh s (h ∷ k ∷ hs) t (o, rest) ends =
      end_on fresh s h.move (map to_of (h ∷ k ∷ hs)) (map move_of (k ∷ hs))
      (λ b. hops_end b h.to (k ∷ hs) t rest ends)

-- ---- a stub's walk
module _ (g : RibGround) (sound : IsSound g.d) (fits : FitsDesign g.d g.lat) (s : Island)
    (there : s.net < length g.d.nets) (w : Walk) (h : IsStubWalk g s w) where
  abbrev copper : List Metal
  copper = copper_of g.d g.lat s.net w.nodes w.moves

  pub stub_net_walk : IsNetWalk g.d g.lat s.net w.nodes w.moves
  stub_net_walk =
      walk_of_net g.d g.lat g.items s.net g.via_cost (h.from ∷ []) (h.to ∷ []) w
      (All-cons (λ v. v < node_count g.lat) h.from [] h.starts.there (All-nil (λ v. v < node_count g.lat)))
      (walk_of g s w h)

  probes : All (IsLegalProbe g.d g.items s.net) (walk_probes g.d g.lat s.net w.nodes w.moves)
  probes =
      let P = IsLegalProbe g.d g.items s.net in
      subst (λ (ns : List ℕ). All P (walk_probes g.d g.lat s.net ns w.moves)) (sym h.nodes)
      (All-cons P (disc_at g.d g.lat s.net h.from) (move_probes g.d g.lat s.net (h.from ∷ map to_of h.hops) w.moves)
      h.starts.legal
      (subst (λ (ns : List ℕ). All P (move_probes g.d g.lat s.net ns w.moves)) h.nodes
      (walk_legal g.d g.lat g.items s.net g.via_cost (h.from ∷ []) (h.to ∷ []) w (walk_of g s w h))))

  pub stub_agrees : (id : ℕ) (b : Item) → Contains g.items b
      → All (λ (a : Metal). Agrees g.d (laid_item g.d s.net id a) b) copper
  stub_agrees id b b_in =
      walk_agrees g.d g.lat s.net id b fits w.nodes w.moves stub_net_walk
      (λ k p within. (probes k p within).agrees b b_in)

  pub stub_inside : All (IsMetalInside g.d) copper
  stub_inside =
      walk_inside g.d g.lat s.net w.nodes w.moves stub_net_walk (λ k p within. (probes k p within).inside)

  pub stub_well : (id : ℕ) → All (IsWellLaid g.d s.net id) copper
  stub_well id = walk_laid g.d g.lat s.net id sound fits there w.nodes w.moves stub_net_walk

  pub stub_routes : All (IsWireOrVia (width_for g.d s.net)) copper
  stub_routes = routes g.d g.lat s.net w.nodes w.moves stub_net_walk

  pub stub_connects : Connect g.d g.lat h.from copper (last_node h.from (map to_of h.hops))
  stub_connects =
      subst (λ (ns : List ℕ).
      Connect g.d g.lat h.from (copper_of g.d g.lat s.net ns w.moves) (last_node h.from (map to_of h.hops)))
      (sym h.nodes)
      (walk_connects g.d g.lat s.net fits h.from (map to_of h.hops) w.moves
      (subst (λ (ns : List ℕ). IsNetWalk g.d g.lat s.net ns w.moves) h.nodes stub_net_walk))

  pub stub_end : LaysEnd g s.net copper
  stub_end =
      subst (λ (ns : List ℕ). LaysEnd g s.net (copper_of g.d g.lat s.net ns w.moves)) (sym h.nodes)
      (subst (λ (ms : List Move).
      LaysEnd g s.net (copper_of g.d g.lat s.net (h.from ∷ map to_of h.hops) ms)) (sym h.moves)
      (by h.hops h.leads h.ends))
    where
      by : (hs : List Hop) → Leads (moves_on g s.net) h.from hs h.to → EndsAtRib g s.net h.from hs
          → LaysEnd g s.net (copper_of g.d g.lat s.net (h.from ∷ map to_of hs) (map move_of hs))
      by [] leads ends = absurd ends
      by (k ∷ ks) leads ends = hops_end g s.net (width_for g.d s.net) true h.from (k ∷ ks) h.to leads ends
