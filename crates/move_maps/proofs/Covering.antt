-- What lies out of a window that was grown enough is clear of an item: steps, vias, and so all moves.
use Prim.Native.Nat.{zero, suc}
use Rattle.std.proofs.Common.{◌≡◌, ℕ, ℤ, pos, ltb-true, ◌+◌, ◌-◌, ◌*◌, ◌/◌, ◌%◌, ◌<◌, ◌≤◌, ◌+ℤ◌, ◌-ℤ◌, ◌≤ℤ◌, Bool}
use Rattle.std.proofs.Common.{true, false, cond, min, List, [], ◌∷◌, map, length, Option, Some, None, All}
use Rattle.std.proofs.Common.{refl, sym, ap, ◌∙◌, subst, arith, inl, inr, take, slice_index_or}
use Rattle.std.specs.Prelude.{nat_lt, slice_index, slice_get}
use Rattle.std.specs.Option.{option_map}
use Rattle.std.proofs.lemmas.Bool.{ltb-false}
use Rattle.std.proofs.lemmas.Int.{ints}
use Rattle.std.proofs.lemmas.Nat.{div_below}
use Rattle.std.proofs.lemmas.List.Elements.{All-nil, All-cons, All-append, All-weaker}
use Rattle.std.proofs.lemmas.List.{take_more, take_all}
use Rattle.geo_kernel.specs.declared.point.Point.{Point}
use Rattle.geo_kernel.specs.declared.point.Rect4.{Rect4}
use Rattle.geo_kernel.specs.declared.spine.Spine.{Spine}
use Rattle.geo_kernel.specs.declared.spine.Spine.TheVariants.{Chain, Area}
use Rattle.geo_kernel.specs.Moved.{moved, moved_spine}
use Rattle.pcb_model.specs.declared.item.Piece.{Piece}
use Rattle.pcb_model.specs.declared.item.Item.{Item}
use Rattle.pcb_model.specs.declared.item.Probe.{Probe}
use Rattle.pcb_model.specs.declared.item.Probe.TheVariants as probe
use Rattle.pcb_model.specs.declared.design.Net.{Net}
use Rattle.pcb_model.specs.declared.design.Design.{Design}
use Rattle.pcb_model.specs.declared.near.Extent.{Extent}
use Rattle.pcb_model.specs.Bounds.{HasRulesWithin}
use Rattle.pcb_model.specs.Near.{IsExtentOf}
use Rattle.pcb_model.specs.Pieces.{padstack_pieces, moved_piece}
use Rattle.pcb_model.specs.Rules.{width_for}
use Rattle.pcb_model.specs.Sound.{IsSound, origin}
use Rattle.route_lattice.specs.declared.moves.Move.{Move}
use Rattle.route_lattice.specs.declared.moves.Move.TheVariants.{Via}
use Rattle.route_lattice.specs.Fits.{FitsDesign}
use Rattle.route_lattice.specs.Mesh.{Mesh, node_count, node_at, column, row, point_of, layer_of}
use Rattle.route_lattice.specs.Ways.{step_at, via_at, vias_in, vias_of, way_count, can_join}
use Rattle.route_lattice.specs.Legal.{probe_of, probe_at}
use Rattle.route_lattice.proofs.Places.{row_below}
use Rattle.route_lattice.proofs.Windows.{column_below}
use Rattle.move_maps.specs.declared.window.Window.{Window}
use Rattle.move_maps.specs.Clear.{IsClearOf}
use Rattle.move_maps.specs.Windows.{IsWindowFor, IsOff, IsOutOf, around}
use Rattle.move_maps.specs.Paint.{IsClearAt, Covers, CoversSteps, CoversVia, IsHeld}
use Rattle.move_maps.proofs.Off.{off_clear}
use Rattle.move_maps.proofs.Vias.{out_clear}

-- a move is clear where each probe that it may lay is
at_probe : (d : Design) (g : ℕ) (b : Item) (o : Option Probe) → ((p : Probe) → o ≡ Some p → IsClearOf d g p b)
    → IsClearAt d g b o
at_probe d g b None h = tt
at_probe d g b (Some p) h = h p refl

-- ---- steps
-- a node out of the widened window is neither in the window nor beside it
off_wide : (m : Mesh) (w u : Window) (v : ℕ) → v < node_count m → u.left ≡ w.left - 1
    → u.right ≡ min (length m.xs) (w.right + 1) → u.bottom ≡ w.bottom - 1 → u.top ≡ min (length m.ys) (w.top + 1)
    → IsOutOf m u v → IsOff m w v
off_wide m w u v hv l r b t (inl (inl h)) = inl (inl (left (column m v) w.left u.left l h))
  where
    left : (c a b : ℕ) → b ≡ a - 1 → c < b → c + 1 < a
    left c a b e h = omega (arith, e, h)
off_wide m w u v hv l r b t (inl (inr h)) =
    inl (inr (right (column m v) w.right u.right (length m.xs) r h (column_below m v hv)))
  where
    right : (c a b n : ℕ) → b ≡ min n (a + 1) → b ≤ c → c < n → a < c
    right c a b n e h k = omega (arith, e, h, k)
off_wide m w u v hv l r b t (inr (inl h)) = inr (inl (left (row m v) w.bottom u.bottom b h))
  where
    left : (c a b : ℕ) → b ≡ a - 1 → c < b → c + 1 < a
    left c a b e h = omega (arith, e, h)
off_wide m w u v hv l r b t (inr (inr h)) =
    inr (inr (right (row m v) w.top u.top (length m.ys) t h
    (row_below (length m.xs) (length m.ys) (length m.layers) v hv)))
  where
    right : (c a b n : ℕ) → b ≡ min n (a + 1) → b ≤ c → c < n → a < c
    right c a b n e h k = omega (arith, e, h, k)

-- a window for the item's box, with the lines beside it, covers the steps
pub steps_covered : (d : Design) (m : Mesh) (g : ℕ) (b : Item) (f : Extent) (reach grow : ℕ) (w u : Window) → IsSound d
    → FitsDesign d m → HasRulesWithin reach d → IsExtentOf b.pieces f
    → 2 * reach + width_for d g + f.width + 1 ≤ 2 * grow → IsWindowFor m f.bounds grow w
    → u.left ≡ w.left - 1 → u.right ≡ min (length m.xs) (w.right + 1) → u.bottom ≡ w.bottom - 1
    → u.top ≡ min (length m.ys) (w.top + 1) → CoversSteps d m g b u
steps_covered d m g b f reach grow w u s fits rules of_b enough window l r bo t = record {
  each = λ v i hv hi out. at_probe d g b (probe_at d m g v i)
      (λ p e. off_clear d m g b f reach grow w s fits rules of_b enough window v i p hv hi
      (off_wide m w u v hv l r bo t out) e);
}

-- ---- vias
-- a window for the box about which the padstack meets the item covers its vias
pub via_covered : (d : Design) (m : Mesh) (g padstack : ℕ) (b : Item) (e f : Extent) (reach grow : ℕ) (w : Window)
    → HasRulesWithin reach d → IsExtentOf (padstack_pieces d padstack) e → IsExtentOf b.pieces f
    → 2 * reach + e.width + f.width + 1 ≤ 2 * grow → IsWindowFor m (around f.bounds e.bounds) grow w
    → CoversVia d m g b padstack w
via_covered d m g padstack b e f reach grow w rules of_stack of_b enough window = record {
  each = λ v hv out. out_clear d m g padstack b e f reach grow w v rules of_stack of_b enough window hv out;
}

-- a window for a box with the sides of the one around
pub window_around : (m : Mesh) (r f e : Rect4) (grow : ℕ) (w : Window) → r.x0 ≡ (f.x0 -ℤ e.x1) → r.y0 ≡ (f.y0 -ℤ e.y1)
    → r.x1 ≡ (f.x1 -ℤ e.x0) → r.y1 ≡ (f.y1 -ℤ e.y0)
    → IsWindowFor m r grow w → IsWindowFor m (around f e) grow w
window_around m r f e grow w x0 y0 x1 y1 h = record {
  left = λ k l. subst (λ z. slice_index_or m.xs k (pos 0) ≤ℤ (z -ℤ pos grow)) x0 (h.left k l);
  right = λ k l n. subst (λ z. (z +ℤ pos grow) ≤ℤ slice_index_or m.xs k (pos 0)) x1 (h.right k l n);
  bottom = λ k l. subst (λ z. slice_index_or m.ys k (pos 0) ≤ℤ (z -ℤ pos grow)) y0 (h.bottom k l);
  top = λ k l n. subst (λ z. (z +ℤ pos grow) ≤ℤ slice_index_or m.ys k (pos 0)) y1 (h.top k l n);
}

-- ---- wider windows
-- what is out of a window is out of each window in it
out_of_held : (m : Mesh) (w u : Window) (v : ℕ) → IsHeld w u → IsOutOf m u v → IsOutOf m w v
out_of_held m w u v h (inl (inl k)) = inl (inl (let l = h.left in omega (arith, k, l)))
out_of_held m w u v h (inl (inr k)) = inl (inr (let l = h.right in omega (arith, k, l)))
out_of_held m w u v h (inr (inl k)) = inr (inl (let l = h.bottom in omega (arith, k, l)))
out_of_held m w u v h (inr (inr k)) = inr (inr (let l = h.top in omega (arith, k, l)))

-- a wider window covers the steps too
pub steps_wider : (d : Design) (m : Mesh) (g : ℕ) (b : Item) (w u : Window) → IsHeld w u → CoversSteps d m g b w
    → CoversSteps d m g b u
steps_wider d m g b w u h c = record { each = λ v i hv hi out. c.each v i hv hi (out_of_held m w u v h out) }

-- and a padstack's vias
pub via_wider : (d : Design) (m : Mesh) (g : ℕ) (b : Item) (w u : Window) → IsHeld w u → (padstack : ℕ)
    → CoversVia d m g b padstack w → CoversVia d m g b padstack u
via_wider d m g b w u h padstack c = record { each = λ v hv out. c.each v hv (out_of_held m w u v h out) }

-- and those of each of some padstacks
pub vias_wider : (d : Design) (m : Mesh) (g : ℕ) (b : Item) (w u : Window) (vias : List ℕ) → IsHeld w u
    → All (λ p. CoversVia d m g b p w) vias → All (λ p. CoversVia d m g b p u) vias
vias_wider d m g b w u vias h c = All-weaker (λ p. CoversVia d m g b p w) (λ p. CoversVia d m g b p u)
    (via_wider d m g b w u h) vias c

-- ---- all moves
-- what holds in both cases
either : {X : Type 0} (P : X → Type 0) (b : Bool) (x y : X) → (b ≡ true → P x) → (b ≡ false → P y) → P (cond b x y)
either P true x y f g = f refl
either P false x y f g = g refl

-- a via's move lays its padstack at the node's point
via_clear : (d : Design) (m : Mesh) (g : ℕ) (b : Item) (v padstack t : ℕ)
    → IsClearOf d g (probe.Via padstack (point_of m v)) b
    → IsClearAt d g b (option_map (λ (x : Move × ℕ). probe_of d m g v x.0 x.1) (via_at d m v padstack t))
via_clear d m g b v padstack t c =
    either (λ (o : Option (Move × ℕ)). IsClearAt d g b (option_map (λ (x : Move × ℕ). probe_of d m g v x.0 x.1) o))
    (can_join (padstack_pieces d padstack) (point_of m v) (layer_of m v) (slice_index m.layers t))
    (Some (Via padstack (slice_index m.layers t), node_at m t (row m v) (column m v))) None (λ e. c) (λ e. tt)

-- a window that covers the steps and each padstack covers all moves
pub all_covered : (d : Design) (m : Mesh) (g : ℕ) (b : Item) (w : Window) → CoversSteps d m g b w
    → All (λ p. CoversVia d m g b p w) (vias_of d g) → Covers d m g b w
all_covered d m g b w steps vias = record { each = λ v i hv hi out. at v i hv hi out (nat_lt i 4) refl }
  where
    number : (i k n : ℕ) → 4 ≤ i → i < 4 + k * n → i - 4 < k * n
    number i k n l h = omega (arith, l, h)

    some : (x k n : ℕ) → x < k * n → 0 < n
    some x k zero h = absurd (omega (arith, h))
    some x k (suc n) h = omega arith

    at : (v i : ℕ) → v < node_count m → i < way_count d m g → IsOutOf m w v → (s : Bool) → nat_lt i 4 ≡ s
        → IsClearAt d g b (probe_at d m g v i)
    at v i hv hi out true e = steps.each v i hv (ltb-true i 4 e) out
    at v i hv hi out false e =
        let h = number i (length (vias_of d g)) (length m.layers) (ltb-false i 4 e) hi in
        let k = div_below (i - 4) (length m.layers) (length (vias_of d g))
        (some (i - 4) (length (vias_of d g)) (length m.layers) h) h in
        let p = slice_index (vias_of d g) ((i - 4) / length m.layers) in
        let c : CoversVia d m g b p w = vias ((i - 4) / length m.layers) 0 k in
        subst (λ (s : Bool). IsClearAt d g b
        (option_map (λ (x : Move × ℕ). probe_of d m g v x.0 x.1)
        (cond s (step_at m v i) (via_at d m v p ((i - 4) % length m.layers))))) (sym e)
        (via_clear d m g b v p ((i - 4) % length m.layers) (c.each v hv out))

-- ---- a padstack about the origin
-- a point moved by nothing
still : (p : Point) → moved origin p ≡ p
still p =
    let e : (p.x +ℤ pos 0) ≡ p.x = omega (arith, ints) in
    let h : (p.y +ℤ pos 0) ≡ p.y = omega (arith, ints) in
    ap (λ (x : ℤ). record { x = x; y = p.y +ℤ pos 0 }) e ∙ ap (λ (y : ℤ). record { x = p.x; y = y }) h

-- points moved by nothing
all_still : (ps : List Point) → map (moved origin) ps ≡ ps
all_still [] = refl
all_still (p ∷ ps) = let e = still p in let h = all_still ps in cc

-- loops moved by nothing
loops_still : (ls : List (List Point)) → map (map (moved origin)) ls ≡ ls
loops_still [] = refl
loops_still (l ∷ ls) = let e = all_still l in let h = loops_still ls in cc

-- a spine moved by nothing
spine_still : (s : Spine) → moved_spine origin s ≡ s
spine_still (Chain ps) = ap Chain (all_still ps)
spine_still (Area ls) = ap Area (loops_still ls)

-- a piece moved by nothing
piece_still : (p : Piece) → moved_piece origin p ≡ p
piece_still p = ap (λ (s : Spine). record { layer = p.layer; spine = s; width = p.width }) (spine_still p.spine)

-- pieces moved by nothing
pub pieces_still : (ps : List Piece) → map (moved_piece origin) ps ≡ ps
pieces_still [] = refl
pieces_still (p ∷ ps) = let e = piece_still p in let h = pieces_still ps in cc

-- ---- via by via
-- the window covers the steps, and the vias of these padstacks
pub record IsCovered (d : Design) (m : Mesh) (g : ℕ) (padstacks : List ℕ) (w : Window) (b : Item) : Type 0 where
  pub steps : CoversSteps d m g b w
  pub vias : All (λ p. CoversVia d m g b p w) padstacks

-- it does so for each item of the extent; its sides are places of lines
pub record IsSoFar (d : Design) (m : Mesh) (g : ℕ) (f : Extent) (padstacks : List ℕ) (w : Window) : Type 0 where
  pub covered : (b : Item) → IsExtentOf b.pieces f → IsCovered d m g padstacks w b
  pub left : w.left ≤ length m.xs
  pub right : w.right ≤ length m.xs
  pub bottom : w.bottom ≤ length m.ys
  pub top : w.top ≤ length m.ys

-- at first the steps are covered
pub so_far_first : (d : Design) (m : Mesh) (g : ℕ) (f : Extent) (vias : List ℕ) (w : Window)
    → ((b : Item) → IsExtentOf b.pieces f → CoversSteps d m g b w) → w.left ≤ length m.xs → w.right ≤ length m.xs
    → w.bottom ≤ length m.ys → w.top ≤ length m.ys → IsSoFar d m g f (take 0 vias) w
so_far_first d m g f vias w s l r bo t = record {
  covered = λ b h. record { steps = s b h; vias = All-nil (λ p. CoversVia d m g b p w) };
  left = l;
  right = r;
  bottom = bo;
  top = t;
}

-- one more via of an item
covered_next : (d : Design) (m : Mesh) (g : ℕ) (vias : List ℕ) (k : ℕ) (w u z : Window) (b : Item) → k < length vias
    → IsCovered d m g (take k vias) w b → CoversVia d m g b (slice_index vias k) u → IsHeld w z → IsHeld u z
    → IsCovered d m g (take (k + 1) vias) z b
covered_next d m g vias k w u z b h s c hw hu = record {
  steps = steps_wider d m g b w z hw s.steps;
  vias = subst (All (λ p. CoversVia d m g b p z)) (sym (take_more vias k 0 h))
      (All-append (λ p. CoversVia d m g b p z) (take k vias) (slice_index vias k ∷ [])
      (vias_wider d m g b w z (take k vias) hw s.vias)
      (All-cons (λ p. CoversVia d m g b p z) (slice_index vias k) [] (via_wider d m g b u z hu (slice_index vias k) c)
      (All-nil (λ p. CoversVia d m g b p z))));
}

-- one more via, and the window over both
pub so_far_next : (d : Design) (m : Mesh) (g : ℕ) (f : Extent) (vias : List ℕ) (k : ℕ) (w u z : Window)
    → k < length vias → IsSoFar d m g f (take k vias) w
    → ((b : Item) → IsExtentOf b.pieces f → CoversVia d m g b (slice_index vias k) u)
    → IsHeld w z → IsHeld u z → z.left ≤ length m.xs → z.right ≤ length m.xs → z.bottom ≤ length m.ys
    → z.top ≤ length m.ys → IsSoFar d m g f (take (k + 1) vias) z
so_far_next d m g f vias k w u z h s c hw hu l r bo t = record {
  covered = λ b e. covered_next d m g vias k w u z b h (s.covered b e) (c b e) hw hu;
  left = l;
  right = r;
  bottom = bo;
  top = t;
}

-- the padstacks of a net's vias
pub vias_at : (nets : List Net) (g : ℕ) (n : Net) → g < length nets
    → vias_in (slice_get nets g) ≡ (slice_index_or nets g n).vias
vias_at [] g n h = absurd (omega (arith, h))
vias_at (x ∷ nets) zero n h = refl
vias_at (x ∷ nets) (suc g) n h = vias_at nets g n (omega (arith, h))

-- at last all padstacks are
pub so_far_all : (d : Design) (m : Mesh) (g : ℕ) (f : Extent) (vias : List ℕ) (k : ℕ) (w u : Window)
    → vias ≡ vias_of d g → length vias ≤ k → IsSoFar d m g f (take k vias) w → IsHeld w u
    → (b : Item) → IsExtentOf b.pieces f → Covers d m g b u
so_far_all d m g f vias k w u is last s hw b of_b =
    let c = s.covered b of_b in
    let all = subst (All (λ p. CoversVia d m g b p w)) (take_all k vias last ∙ is) c.vias in
    all_covered d m g b u (steps_wider d m g b w u hw c.steps) (vias_wider d m g b w u (vias_of d g) hw all)
