-- A move that is away from the net's own copper and is counted in the map is shut.
use Rattle.std.proofs.Common.{◌≡◌, ℕ, ◌+◌, ◌-◌, ◌*◌, ◌/◌, ◌%◌, ◌<◌, ◌≤◌, ◌⊎◌, ◌==◌, Bool, true, false, not, ◌&&◌}
use Rattle.std.proofs.Common.{cond, max, List, [], ◌∷◌, length, Option, Some, None, All, Any, inl, inr, refl, sym, ap}
use Rattle.std.proofs.Common.{◌∙◌, subst, arith}
use Rattle.std.specs.Prelude.{Contains, nat_lt, slice_index}
use Rattle.std.specs.Option.{option_map}
use Rattle.std.specs.Bool.{OnTrue}
use Rattle.std.proofs.lemmas.Bool.{eqb-true, eq-eqb, false≢true, le-ltb}
use Rattle.std.proofs.Common.{get_or}
use Rattle.std.proofs.lemmas.List.Elements.{All-head, All-tail, Contains-get_or}
use Rattle.geo_kernel.proofs.Keeping.{keep_bars_touch}
use Rattle.geo_kernel.proofs.Paths.{Any-cases, Any-nil}
use Rattle.pcb_model.specs.Board.{AreInside}
use Rattle.pcb_model.specs.declared.item.Kind.{Kind}
use Rattle.pcb_model.specs.declared.item.Kind.TheVariants as kind
use Rattle.pcb_model.specs.declared.item.Metal.{Metal}
use Rattle.pcb_model.specs.declared.item.Metal.TheVariants as metal
use Rattle.pcb_model.specs.declared.item.Piece.{Piece}
use Rattle.pcb_model.specs.declared.item.Item.{Item}
use Rattle.pcb_model.specs.declared.item.Probe.{Probe}
use Rattle.pcb_model.specs.declared.item.Probe.TheVariants as probe
use Rattle.pcb_model.specs.declared.design.Design.{Design}
use Rattle.pcb_model.specs.Pairs.{meets_vias}
use Rattle.pcb_model.specs.Rules.{clearance_of}
use Rattle.pcb_model.specs.Pieces.{pieces_of, metal_of, kind_of, padstack_pieces}
use Rattle.pcb_model.specs.Pairs.{PieceKeeps, KeepsFrom, PiecesKeep, PieceTouches, TouchesSome, PiecesTouch}
use Rattle.pcb_model.specs.Pairs.{is_same_net, is_compared, ProbeAgrees}
use Rattle.route_lattice.specs.declared.moves.Move.{Move}
use Rattle.route_lattice.specs.declared.moves.Move.TheVariants.{Step, Via}
use Rattle.route_lattice.specs.Mesh.{Mesh, node_count, node_at, column, row, level, point_of, layer_of}
use Rattle.route_lattice.specs.Ways.{step_at, via_at, vias_of, way, way_count, can_join}
use Rattle.route_lattice.specs.Legal.{probe_of, probe_at, IsOpen}
use Rattle.move_maps.specs.declared.window.Window.{Window}
use Rattle.move_maps.specs.Groups.{AreAlike}
use Rattle.move_maps.specs.Clear.{IsClearOf}
use Rattle.move_maps.specs.Maps.{Misses, IsOutside, IsTally, IsMapOf, place_at}
use Rattle.move_maps.specs.declared.map.GroupMap.{GroupMap}
use Rattle.move_maps.specs.Paint.{IsClearAt, CoverTogether}
use Rattle.move_maps.specs.Windows.{IsOutOfAll}
use Rattle.move_maps.specs.OwnCopper.{IsForeign, IsOwnCopper, IsStepThere, IsViaThere}
use Rattle.move_maps.proofs.Alike.{same_clearance, same_probe, same_way_count}

-- ---- steps
-- no via, if it is there
abbrev pub IsNoVia : Option (Move × ℕ) → Type 0
IsNoVia None = Unit {0}
IsNoVia (Some (Step dir, to)) = Unit {0}
IsNoVia (Some (Via padstack layer, to)) = ⊥

-- what holds in both cases
either : {X : Type 0} (P : X → Type 0) (b : Bool) (x y : X) → P x → P y → P (cond b x y)
either P true x y f g = f
either P false x y f g = g

-- a step is no via
pub step_no_via : (m : Mesh) (v dir : ℕ) → IsNoVia (step_at m v dir)
step_no_via m v dir =
    let P : Option (Move × ℕ) → Type 0 = λ o. IsNoVia o in
    let l = level m v in let j = row m v in let i = column m v in
    let right : Option (Move × ℕ) =
    cond (nat_lt (i + 1) (length m.xs)) (Some (Step 0, node_at m l j (i + 1))) None in
    let left : Option (Move × ℕ) = cond (nat_lt 0 i) (Some (Step 1, node_at m l j (i - 1))) None in
    let up : Option (Move × ℕ) = cond (nat_lt (j + 1) (length m.ys)) (Some (Step 2, node_at m l (j + 1) i)) None in
    let down : Option (Move × ℕ) = cond (nat_lt 0 j) (Some (Step 3, node_at m l (j - 1) i)) None in
    either P (dir == 0) right (cond (dir == 1) left (cond (dir == 2) up down))
    (either P (nat_lt (i + 1) (length m.xs)) (Some (Step 0, node_at m l j (i + 1))) None tt tt)
    (either P (dir == 1) left (cond (dir == 2) up down)
    (either P (nat_lt 0 i) (Some (Step 1, node_at m l j (i - 1))) None tt tt)
    (either P (dir == 2) up down
    (either P (nat_lt (j + 1) (length m.ys)) (Some (Step 2, node_at m l (j + 1) i)) None tt tt)
    (either P (nat_lt 0 j) (Some (Step 3, node_at m l (j - 1) i)) None tt tt)))

-- the first four moves are steps
pub way_step : (d : Design) (m : Mesh) (net v i : ℕ) → i < 4 → way d m net v i ≡ step_at m v i
way_step d m net v i h = picks (nat_lt i 4) (step_at m v i)
    (via_at d m v (slice_index (vias_of d net) ((i - 4) / length m.layers)) ((i - 4) % length m.layers))
    (below-true i 4 h)
  where
    picks : (b : Bool) (x y : Option (Move × ℕ)) → b ≡ true → cond b x y ≡ x
    picks true x y e = refl
    picks false x y e = cc

    below-true : (a b : ℕ) → a < b → nat_lt a b ≡ true
    below-true a b k = grind (arith, k)

-- the others are vias
pub way_via : (d : Design) (m : Mesh) (net v i : ℕ) → 4 ≤ i → way d m net v i
    ≡ via_at d m v (slice_index (vias_of d net) ((i - 4) / length m.layers)) ((i - 4) % length m.layers)
way_via d m net v i h = picks (nat_lt i 4) (step_at m v i)
    (via_at d m v (slice_index (vias_of d net) ((i - 4) / length m.layers)) ((i - 4) % length m.layers))
    (not_below i 4 h)
  where
    picks : (b : Bool) (x y : Option (Move × ℕ)) → b ≡ false → cond b x y ≡ y
    picks true x y e = cc
    picks false x y e = refl

    not_below : (a b : ℕ) → b ≤ a → nat_lt a b ≡ false
    not_below a b k = le-ltb a b k

-- ---- copper
-- an item of the same net has that net
same_net_is : (net : ℕ) (o : Option ℕ) → is_same_net (Some net) o ≡ true → o ≡ Some net
same_net_is net None e = cc
same_net_is net (Some x) e = ap (λ (m : ℕ). Some m) (sym (eqb-true net x e))

-- where all have P, which bars Q, none has Q
none_has : {X : Type 0} (P Q : X → Type 0) → ((x : X) → P x → Q x → ⊥) → (xs : List X) → All P xs → Any Q xs → ⊥
none_has P Q bars [] h q = Any-nil Q q
none_has P Q bars (x ∷ xs) h q = elim (Any-cases Q x xs q) [
  | inl a ↦ bars x (All-head P x xs h) a
  | inr a ↦ none_has P Q bars xs (All-tail P x xs h) a
]

-- pieces that keep a clearance don't touch
apart : (c : ℕ) (ps rs : List Piece) → 0 < c → PiecesKeep c ps rs → PiecesTouch ps rs → ⊥
apart c ps rs some h t = none_has (KeepsFrom c rs) (TouchesSome rs)
    (λ p k x. none_has (PieceKeeps c p) (PieceTouches p) (off p) rs k.each x.some) ps h.each t.some
  where
    wide : (x y : ℕ) → x + y < max 1 (2 * c + x + y)
    wide x y = omega (arith, some)

    off : (p r : Piece) → PieceKeeps c p r → PieceTouches p r → ⊥
    off p r k x = keep_bars_touch p.spine r.spine (max 1 (2 * c + p.width + r.width)) (p.width + r.width)
        (k.keep x.one_layer) (wide p.width r.width) x.touch

-- a via is compared with what vias meet
via_met : (p : Probe) (x : Metal) → kind_of (metal_of p) ≡ kind.Via → meets_vias x ≡ true
    → is_compared (metal_of p) x ≡ true
via_met (probe.Disc layer width at) x e h = cc
via_met (probe.Step layer width a b) x e h = cc
via_met (probe.Via padstack at) (metal.Wire layer width chain) e h = refl
via_met (probe.Via padstack at) (metal.Via other by) e h = refl
via_met (probe.Via padstack at) (metal.Pad pin) e h = refl
via_met (probe.Via padstack at) (metal.Ban wires vias) e h = h

-- what agrees with foreign copper is clear of it
foreign_clear : (d : Design) (g net : ℕ) (p : Probe) (b : Item) → AreAlike d g net → IsForeign d g net b
    → is_same_net (Some net) b.net ≡ false → ProbeAgrees d net p b → IsClearOf d g p b
foreign_clear d g net p b h foreign other agrees = record {
  keep = keep;
  stay_off = λ off via own touch.
      let met = via_met p b.metal via (foreign.met own.smd) in
      apart (clearance_of d (Some g) (kind_of (metal_of p)) b.net b.kind) (pieces_of d (metal_of p)) b.pieces
      (subst (λ (k : Kind). 0 < clearance_of d (Some g) k b.net b.kind) (sym via) (foreign.apart own.smd))
      (keep met) touch;
}
  where
    both : (x y : Bool) → x ≡ false → y ≡ true → (not x && y) ≡ true
    both x y e f = cc

    keep : is_compared (metal_of p) b.metal ≡ true
        → PiecesKeep (clearance_of d (Some g) (kind_of (metal_of p)) b.net b.kind) (pieces_of d (metal_of p)) b.pieces
    keep compared = subst (λ k. PiecesKeep k (pieces_of d (metal_of p)) b.pieces)
        (sym (same_clearance d g net (kind_of (metal_of p)) b.net b.kind h))
        (agrees.keep (both (is_same_net (Some net) b.net) (is_compared (metal_of p) b.metal) other compared))

-- where all hold none is missed
all_missed : {X : Type 0} (P : X → Type 0) (xs : List X) (n : ℕ) → All P xs → Misses P xs n → n ≡ 0
all_missed P [] n all e = e
all_missed P (x ∷ xs) n all (inl (holds, rest)) = all_missed P xs n (All-tail P x xs all) rest
all_missed P (x ∷ xs) n all (inr (fails, m, e, rest)) = absurd (fails (All-head P x xs all))

-- what lies inside isn't counted as outside
inside_none : (d : Design) (p : Probe) (o : ℕ) → AreInside d.bounds (pieces_of d (metal_of p)) → IsOutside d p o → o ≡ 0
inside_none d p o within (inl (h, e)) = e
inside_none d p o within (inr (beyond, e)) = absurd (beyond within)

-- ---- a move that is counted
module _ (d : Design) (m : Mesh) (items : List Item) (g net v i : ℕ) (ws : List Window) (h : AreAlike d g net)
    (own : IsOwnCopper d m items g net ws) (hv : v < node_count m) (hi : i < way_count d m g)
    (out : IsOutOfAll m ws v) where
  -- away from the net's own copper a move that agrees with an item is clear of it
  pub agreed_clear : (p : Probe) → probe_at d m g v i ≡ Some p → (b : Item) → Contains items b → ProbeAgrees d net p b
      → IsClearOf d g p b
  agreed_clear p e b there agrees = at (own.each b there)
    where
      by : IsForeign d g net b → (s : Bool) → is_same_net (Some net) b.net ≡ s → IsClearOf d g p b
      by k true s = absurd (k.other (same_net_is net b.net s))
      by k false s = foreign_clear d g net p b h k s agrees

      at : CoverTogether d m g b ws ⊎ IsForeign d g net b → IsClearOf d g p b
      at (inl k) = subst (λ (o : Option Probe). IsClearAt d g b o) e (k.each v i hv hi out)
      at (inr k) = by k (is_same_net (Some net) b.net) refl

module _ (d : Design) (m : Mesh) (items : List Item) (g net v i n : ℕ) (ws : List Window) (h : AreAlike d g net)
    (own : IsOwnCopper d m items g net ws) (hv : v < node_count m) (hi : i < way_count d m g) (out : IsOutOfAll m ws v)
    (few : n < 255) (some : 0 < n) where
  -- so a count above 0 shuts it
  shut_at : (o : Option Probe) → probe_at d m g v i ≡ o → IsTally d g items o n → IsOpen d items net o → ⊥
  shut_at None e tally is_open = is_open
  shut_at (Some p) e (inl t) is_open = omega (arith, t, few)
  shut_at (Some p) e (inr (below, (k, x, misses, outside, sum))) is_open =
      let zero_k = all_missed (IsClearOf d g p) items k (all_of items (λ b there.
      agreed_clear d m items g net v i ws h own hv hi out p e b there (is_open.agrees b there))) misses in
      let zero_x = inside_none d p x is_open.inside outside in
      omega (arith, zero_k, zero_x, sum, some)
    where
      all_of : (xs : List Item) → ((b : Item) → Contains xs b → IsClearOf d g p b) → All (IsClearOf d g p) xs
      all_of xs each = λ j x within. each (get_or xs j x) (Contains-get_or xs j x within)

  -- for each net of the group
  pub counted_shut : IsTally d g items (probe_at d m g v i) n → ¬ (IsOpen d items net (probe_at d m net v i))
  counted_shut tally is_open = shut_at (probe_at d m g v i) refl tally
      (subst (λ (o : Option Probe). IsOpen d items net o) (sym (same_probe d m g net v i h)) is_open)

-- a move that is counted is there
module _ (d : Design) (m : Mesh) (items : List Item) (g net v i n : ℕ) (h : AreAlike d g net)
    (few : ¬ (n ≡ 255)) where
  -- what such a tally says of the way of a move
  abbrev Tallied : Option (Move × ℕ) → Type 0
  Tallied o = IsTally d g items (option_map (λ (w : Move × ℕ). probe_of d m net v w.0 w.1) o) n

  -- it says so of the move's own
  tallied : IsTally d g items (probe_at d m g v i) n → Tallied (way d m net v i)
  tallied tally = subst (λ (o : Option Probe). IsTally d g items o n) (same_probe d m g net v i h) tally

  there_in : (o : Option (Move × ℕ)) → i < 4 → step_at m v i ≡ o → way d m net v i ≡ o → Tallied o
      → IsStepThere d m net v i
  there_in None hi e f tally = absurd (few tally)
  there_in (Some w) hi e f tally = record { is_step = hi; to = w; there = e; way_is = f }

  pub step_there : i < 4 → IsTally d g items (probe_at d m g v i) n → IsStepThere d m net v i
  step_there hi tally = there_in (step_at m v i) hi refl (way_step d m net v i hi)
      (subst Tallied (way_step d m net v i hi) (tallied tally))

  via_in : (b : Bool) (p l to : ℕ) → 4 ≤ i → way d m net v i ≡ cond b (Some (Via p l, to)) None
      → Tallied (cond b (Some (Via p l, to)) None) → IsViaThere d m net v i
  via_in true p l to hi e tally = record { is_via = hi; padstack = p; layer = l; to = to; way_is = e }
  via_in false p l to hi e tally = absurd (few tally)

  pub via_there : 4 ≤ i → IsTally d g items (probe_at d m g v i) n → IsViaThere d m net v i
  via_there hi tally =
      let p = slice_index (vias_of d net) ((i - 4) / length m.layers) in
      let t = (i - 4) % length m.layers in
      via_in (can_join (padstack_pieces d p) (point_of m v) (layer_of m v) (slice_index m.layers t)) p
      (slice_index m.layers t) (node_at m t (row m v) (column m v)) hi (way_via d m net v i hi)
      (subst Tallied (way_via d m net v i hi) (tallied tally))

-- ---- at a map
-- a fact that holds where two numbers differ
pub on_other : (n k : ℕ) (P : Type 0) → (¬ (n ≡ k) → P) → OnTrue (not (n == k)) P
on_other n k P f = by (n == k) (λ e same. false≢true (sym e ∙ eq-eqb n k same))
  where
    by : (b : Bool) → (b ≡ false → ¬ (n ≡ k)) → OnTrue (not b) P
    by true g = tt
    by false g = f (g refl)

-- what follows from a fact that holds where a test does
pub on_then : (b : Bool) (P Q : Type 0) → (P → Q) → OnTrue b P → OnTrue b Q
on_then true P Q f h = f h
on_then false P Q f h = tt

module _ (d : Design) (m : Mesh) (items : List Item) (map : GroupMap) (net v i n : ℕ) (h : IsMapOf d m items map)
    (k : AreAlike d map.first net) (hv : v < node_count m) (hi : i < way_count d m net)
    (e : n ≡ slice_index map.counts (place_at d m map.first v i)) where
  -- a count of the map is the move's tally
  tally_at : IsTally d map.first items (probe_at d m map.first v i) n
  tally_at = subst (IsTally d map.first items (probe_at d m map.first v i)) (sym e)
      (h.tallies v i hv (subst (λ x. i < x) (sym (same_way_count d m map.first net k)) hi))

  -- a count that isn't the top tells of a step that it is there
  pub map_there : i < 4 → ¬ (n ≡ 255) → IsStepThere d m net v i
  map_there four few = step_there d m items map.first net v i n k few four tally_at

  -- and of a via
  pub map_via : 4 ≤ i → ¬ (n ≡ 255) → IsViaThere d m net v i
  map_via four few = via_there d m items map.first net v i n k few four tally_at

  -- and where it is above 0, away from the net's own copper, that the move is shut
  pub map_shut : (ws : List Window) → IsOwnCopper d m items map.first net ws → n < 255 → 0 < n → IsOutOfAll m ws v
      → ¬ (IsOpen d items net (probe_at d m net v i))
  map_shut ws own few some out =
      counted_shut d m items map.first net v i n ws k own hv
      (subst (λ x. i < x) (sym (same_way_count d m map.first net k)) hi) out few some tally_at
