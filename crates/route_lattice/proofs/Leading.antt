-- Where the moves of a net lead, what they lay, and what they cost.
use Rattle.std.proofs.Common.{◌≡◌, ℕ, ℤ, ◌+◌, ◌-◌, ◌/◌, ◌%◌, ◌<◌, ◌≤◌, ◌^◌, ◌-ℤ◌, ◌==◌, List, [], ◌∷◌, length, Option}
use Rattle.std.proofs.Common.{Some, None, Bool, true, false, not, ◌&&◌, cond, ltb-true, refl, sym, ◌∙◌, subst, arith}
use Rattle.std.specs.Prelude.{IfSome, slice_index, nat_lt, unsigned_abs}
use Rattle.std.specs.Option.{option_map}
use Rattle.std.proofs.lemmas.Int.{ints}
use Rattle.std.proofs.lemmas.Nat.{mod_below}
use Rattle.std.proofs.lemmas.List.Elements.{All-nil, All-cons}
use Rattle.geo_kernel.specs.declared.point.Point.{Point}
use Rattle.geo_kernel.specs.Plane.{IsWithin}
use Rattle.pcb_model.specs.declared.item.Item.{Item}
use Rattle.pcb_model.specs.declared.design.Design.{Design}
use Rattle.pcb_model.specs.Bounds.{IsFit, IsProbeFit}
use Rattle.pcb_model.specs.Pieces.{wire_piece, padstack_pieces}
use Rattle.pcb_model.specs.Rules.{width_for}
use Rattle.pcb_model.specs.Sound.{IsSound}
use Rattle.route_lattice.specs.declared.moves.Move.{Move}
use Rattle.route_lattice.specs.declared.moves.Move.TheVariants.{Step, Via}
use Rattle.route_lattice.specs.Walks.{IsSound as IsGraphSound}
use Rattle.route_lattice.specs.Mesh.{Mesh, node_count, node_at, column, row, level, point_of, layer_of}
use Rattle.route_lattice.specs.Fits.{FitsDesign}
use Rattle.route_lattice.specs.Near.{are_near_at}
use Rattle.route_lattice.specs.Ways.{step_at, has_copper, can_join, vias_of, via_at, way}
use Rattle.route_lattice.specs.Legal.{disc_at, probe_of, probe_at, way_between, move_price, way_price, legal_graph}
use Rattle.route_lattice.specs.Legal.{CanMove}
use Rattle.route_lattice.proofs.Places.{node_below, level_below, row_below, on_level_below}
use Rattle.route_lattice.proofs.Windows.{column_below}
use Rattle.route_lattice.proofs.Fitting.{point_within, width_small, wire_fit, via_probe_fit, both}

-- a move leads to a node, and the padstack of a via stays within the bounds
abbrev pub IsMoveSound : Design → Mesh → ℕ → Move → ℕ → Type 0
IsMoveSound d m v (Step dir) to = to < node_count m
IsMoveSound d m v (Via padstack layer) to =
    (to < node_count m) × (are_near_at (point_of m v) (padstack_pieces d padstack) ≡ true)

abbrev pub IsWaySound : Design → Mesh → ℕ → Option (Move × ℕ) → Type 0
IsWaySound d m v None = Unit {0}
IsWaySound d m v (Some w) = IsMoveSound d m v w.0 w.1

either : {X : Type 0} (P : X → Type 0) (b : Bool) (x y : X) → (b ≡ true → P x) → (b ≡ false → P y) → P (cond b x y)
either P true x y f g = f refl
either P false x y f g = g refl

step_sound : (d : Design) (m : Mesh) (v dir : ℕ) → v < node_count m → IsWaySound d m v (step_at m v dir)
step_sound d m v dir h =
    let P : Option (Move × ℕ) → Type 0 = λ o. IsWaySound d m v o in
    let l = level m v in let j = row m v in let i = column m v in
    let lb = level_below (length m.xs) (length m.ys) (length m.layers) v h in
    let jb = row_below (length m.xs) (length m.ys) (length m.layers) v h in
    let ib = column_below m v h in
    let go = node_below (length m.xs) (length m.ys) (length m.layers) in
    either P (dir == 0) (cond (nat_lt (i + 1) (length m.xs)) (Some (Step 0, node_at m l j (i + 1))) None)
    (cond (dir == 1) (cond (nat_lt 0 i) (Some (Step 1, node_at m l j (i - 1))) None)
    (cond (dir == 2) (cond (nat_lt (j + 1) (length m.ys)) (Some (Step 2, node_at m l (j + 1) i)) None)
    (cond (nat_lt 0 j) (Some (Step 3, node_at m l (j - 1) i)) None)))
    (λ a. either P (nat_lt (i + 1) (length m.xs)) (Some (Step 0, node_at m l j (i + 1))) None
    (λ k. go l j (i + 1) lb jb (ltb-true (i + 1) (length m.xs) k)) (λ k. tt))
    (λ a. either P (dir == 1) (cond (nat_lt 0 i) (Some (Step 1, node_at m l j (i - 1))) None)
    (cond (dir == 2) (cond (nat_lt (j + 1) (length m.ys)) (Some (Step 2, node_at m l (j + 1) i)) None)
    (cond (nat_lt 0 j) (Some (Step 3, node_at m l (j - 1) i)) None))
    (λ b. either P (nat_lt 0 i) (Some (Step 1, node_at m l j (i - 1))) None
    (λ k. go l j (i - 1) lb jb (less i (length m.xs) ib)) (λ k. tt))
    (λ b. either P (dir == 2) (cond (nat_lt (j + 1) (length m.ys)) (Some (Step 2, node_at m l (j + 1) i)) None)
    (cond (nat_lt 0 j) (Some (Step 3, node_at m l (j - 1) i)) None)
    (λ e. either P (nat_lt (j + 1) (length m.ys)) (Some (Step 2, node_at m l (j + 1) i)) None
    (λ k. go l (j + 1) i lb (ltb-true (j + 1) (length m.ys) k) ib) (λ k. tt))
    (λ e. either P (nat_lt 0 j) (Some (Step 3, node_at m l (j - 1) i)) None
    (λ k. go l (j - 1) i lb (less j (length m.ys) jb) ib) (λ k. tt))))
  where
    less : (a b : ℕ) → a < b → a - 1 < b
    less a b k = omega arith

via_sound : (d : Design) (m : Mesh) (v p t : ℕ) → v < node_count m → t < length m.layers
    → IsWaySound d m v (via_at d m v p t)
via_sound d m v p t h k =
    let to = slice_index m.layers t in
    let ps = padstack_pieces d p in let at = point_of m v in let from = layer_of m v in
    either (IsWaySound d m v) (can_join ps at from to) (Some (Via p to, node_at m t (row m v) (column m v))) None
    (λ e. (
      on_level_below (length m.xs) (length m.ys) (length m.layers) t v k h,
      (both (has_copper ps to) (are_near_at at ps)
          (both (has_copper ps from) (has_copper ps to && are_near_at at ps)
          (both (not (from == to)) (has_copper ps from && (has_copper ps to && are_near_at at ps)) e).1).1).1,
    ))
    (λ e. tt)

pub way_sound : (d : Design) (m : Mesh) (net v i : ℕ) → v < node_count m → IsWaySound d m v (way d m net v i)
way_sound d m net v i h =
    either (IsWaySound d m v) (nat_lt i 4) (step_at m v i)
    (via_at d m v (slice_index (vias_of d net) ((i - 4) / length m.layers)) ((i - 4) % length m.layers))
    (λ e. step_sound d m v i h)
    (λ e. via_sound d m v (slice_index (vias_of d net) ((i - 4) / length m.layers)) ((i - 4) % length m.layers) h
    (mod_below (i - 4) (length m.layers)
    (some (level m v) (length m.layers) (level_below (length m.xs) (length m.ys) (length m.layers) v h))))
  where
    some : (a b : ℕ) → a < b → 0 < b
    some a b k = omega arith

to_node : (d : Design) (m : Mesh) (v : ℕ) (mv : Move) (to : ℕ) → IsMoveSound d m v mv to → to < node_count m
to_node d m v (Step dir) to s = s
to_node d m v (Via padstack layer) to s = s.0

pub way_leads : (d : Design) (m : Mesh) (net v i : ℕ) (mv : Move) (to : ℕ) → v < node_count m
    → way d m net v i ≡ Some (mv, to) → to < node_count m
way_leads d m net v i mv to h e = to_node d m v mv to (subst (IsWaySound d m v) e (way_sound d m net v i h))

goes : (d : Design) (m : Mesh) (v : ℕ) (o : Option (Move × ℕ)) → IsWaySound d m v o
    → IfSome o (λ (w : Move × ℕ). w.1 < node_count m)
goes d m v None s = tt
goes d m v (Some w) s = to_node d m v w.0 w.1 s

pub way_goes : (d : Design) (m : Mesh) (net v i : ℕ) → v < node_count m
    → IfSome (way d m net v i) (λ (w : Move × ℕ). w.1 < node_count m)
way_goes d m net v i h = goes d m v (way d m net v i) (way_sound d m net v i h)

-- ---- prices
between_small : (p q : Point) → IsWithin (2 ^ 29) p → IsWithin (2 ^ 29) q → way_between p q ≤ 2 ^ 31
between_small p q a b = let x = by p.x q.x a.0 b.0 in let y = by p.y q.y a.1 b.1 in omega (arith, x, y)
  where
    by : (x y : ℤ) → unsigned_abs x ≤ 2 ^ 29 → unsigned_abs y ≤ 2 ^ 29 → unsigned_abs (y -ℤ x) ≤ 2 ^ 30
    by x y h k = omega (arith, ints)

move_small : (d : Design) (m : Mesh) (net via_cost v : ℕ) (mv : Move) (to : ℕ) → CanMove d m net via_cost
    → v < node_count m → IsMoveSound d m v mv to → move_price m via_cost v mv to ≤ 2 ^ 35
move_small d m net via_cost v (Step dir) to c h s =
    let b = between_small (point_of m v) (point_of m to) (point_within d m v c.fits h) (point_within d m to c.fits s) in
    omega (arith, b)
move_small d m net via_cost v (Via padstack layer) to c h s = let k = c.small_cost in omega (arith, k)

way_small : (d : Design) (m : Mesh) (net via_cost v : ℕ) (o : Option (Move × ℕ)) → CanMove d m net via_cost
    → v < node_count m → IsWaySound d m v o → way_price m via_cost v o ≤ 2 ^ 35
way_small d m net via_cost v None c h s = omega arith
way_small d m net via_cost v (Some w) c h s = move_small d m net via_cost v w.0 w.1 c h s

pub graph_sound : (d : Design) (m : Mesh) (items : List Item) (net via_cost : ℕ) → CanMove d m net via_cost
    → IsGraphSound (legal_graph d m items net via_cost)
graph_sound d m items net via_cost c = record {
  nodes = let f = c.fits.few_nodes in omega (arith, f);
  leads = λ node i mv to h k e. way_leads d m net node i mv to h e;
  small_price =
      λ node i p h k e. let s = way_small d m net via_cost node (way d m net node i) c h (way_sound d m net node i h) in
      omega (arith, e, s);
  one_price = λ node i p q h k e f. e ∙ sym f;
}

-- ---- probes
pub disc_fits : (d : Design) (m : Mesh) (net v : ℕ) → IsSound d → FitsDesign d m → v < node_count m
    → IsProbeFit d (disc_at d m net v)
disc_fits d m net v s f h = record {
  pieces_fit =
      All-cons IsFit (wire_piece (layer_of m v) (width_for d net) (point_of m v ∷ [])) []
      (wire_fit (layer_of m v) (width_for d net) (point_of m v) [] (width_small d net s)
      (All-cons (IsWithin (2 ^ 29)) (point_of m v) [] (point_within d m v f h) (All-nil (IsWithin (2 ^ 29)))))
      (All-nil IsFit);
}

move_fits : (d : Design) (m : Mesh) (net v : ℕ) (mv : Move) (to : ℕ) → IsSound d → FitsDesign d m → v < node_count m
    → IsMoveSound d m v mv to → IsProbeFit d (probe_of d m net v mv to)
move_fits d m net v (Step dir) to s f h k =
    let a = point_of m v in let b = point_of m to in
    let W = IsWithin (2 ^ 29) in record {
      pieces_fit = All-cons IsFit (wire_piece (layer_of m v) (width_for d net) (a ∷ b ∷ [])) []
          (wire_fit (layer_of m v) (width_for d net) a (b ∷ []) (width_small d net s)
          (All-cons W a (b ∷ []) (point_within d m v f h)
          (All-cons W b [] (point_within d m to f k) (All-nil W)))) (All-nil IsFit);
    }
move_fits d m net v (Via padstack layer) to s f h k =
    record { pieces_fit = via_probe_fit d padstack (point_of m v) s.fits k.1 }

mapped : (d : Design) (m : Mesh) (net v : ℕ) (o : Option (Move × ℕ)) → IsSound d → FitsDesign d m → v < node_count m
    → IsWaySound d m v o → IfSome (option_map (λ (w : Move × ℕ). probe_of d m net v w.0 w.1) o) (IsProbeFit d)
mapped d m net v None s f h k = tt
mapped d m net v (Some w) s f h k = move_fits d m net v w.0 w.1 s f h k

pub probe_fits : (d : Design) (m : Mesh) (net v i : ℕ) → IsSound d → FitsDesign d m → v < node_count m
    → IfSome (probe_at d m net v i) (IsProbeFit d)
probe_fits d m net v i s f h = mapped d m net v (way d m net v i) s f h (way_sound d m net v i h)
