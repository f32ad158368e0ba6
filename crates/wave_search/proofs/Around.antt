-- The way to the box of the goals is a bound on the price of a walk to a goal.
use Rattle.std.proofs.Common.{◌≡◌, ℕ, zero, suc, ℤ, pos, ◌+◌, ◌-◌, ◌*◌, ◌/◌, ◌%◌, ◌<◌, ◌≤◌, ◌^◌, ◌-ℤ◌, ◌≤ℤ◌, ◌==◌, List}
use Rattle.std.proofs.Common.{[], ◌∷◌, length, get_or, Option, Some, None, Bool, true, false, cond, ltb-true, ltb-false}
use Rattle.std.proofs.Common.{inl, inr, ◌++◌, refl, sym, ap, ◌∙◌, subst, arith, rules, take}
use Rattle.std.specs.Prelude.{nat_lt, slice_index, unsigned_abs, fold, All, min}
use Rattle.std.proofs.Math.ListN.{set}
use Rattle.std.specs.Int.{int_min, int_max}
use Rattle.std.proofs.lemmas.Int.{ints, clamps}
use Rattle.std.proofs.lemmas.List.Sums.{fold_more}
use Rattle.std.proofs.lemmas.Nat.{div-mul-add, mod-mul-add}
use Rattle.geo_kernel.specs.declared.point.Point.{Point}
use Rattle.geo_kernel.specs.declared.point.Rect4.{Rect4}
use Rattle.geo_kernel.specs.Boxes.{IsIn}
use Rattle.geo_kernel.proofs.Growing.{box_is_of}
use Rattle.geo_kernel.specs.Plane.{IsWithin}
use Rattle.pcb_model.specs.declared.item.Item.{Item}
use Rattle.pcb_model.specs.declared.design.Design.{Design}
use Rattle.pcb_model.specs.Pieces.{padstack_pieces}
use Rattle.route_lattice.specs.declared.moves.Move.{Move}
use Rattle.route_lattice.specs.declared.moves.Move.TheVariants.{Step, Via}
use Rattle.route_lattice.specs.Mesh.{Mesh, node_count, node_at, column, row, level, point_of, layer_of}
use Rattle.route_lattice.specs.Parts.{IsBoxWithin}
use Rattle.route_lattice.specs.Ways.{step_at, can_join, vias_of, via_at, way}
use Rattle.route_lattice.specs.Legal.{way_between, move_price, way_price, legal_graph, CanMove}
use Rattle.route_lattice.proofs.Places.{row_below}
use Rattle.route_lattice.proofs.Windows.{column_below}
use Rattle.route_lattice.proofs.Leading.{way_leads}
use Rattle.wave_search.specs.Around.{AreLinesWithin, box_at, widened, IsHeldBy, AreAround, above_by, outside_of, way_to}
use Rattle.wave_search.specs.Around.{nearer_of, way_to_nearest, low_at}
use Rattle.wave_search.specs.Bounds.{IsBound}

pub by_cond : {X : Type 0} (P : X → Type 0) (b : Bool) (x y : X) → (b ≡ true → P x) → (b ≡ false → P y) → P (cond b x y)
by_cond P true x y f g = f refl
by_cond P false x y f g = g refl

pub point_within : (m : Mesh) (v : ℕ) → AreLinesWithin m → v < node_count m → IsWithin (2 ^ 29) (point_of m v)
point_within m v w h = (
  w.xs (column m v) (pos 0) (column_below m v h),
  w.ys (row m v) (pos 0) (row_below (length m.xs) (length m.ys) (length m.layers) v h),
)

-- ---- the boxes
still_left : (a x y : ℤ) → a ≤ℤ x → int_min a y ≤ℤ x
still_left a x y h = omega (arith, ints, clamps)

still_right : (a x y : ℤ) → x ≤ℤ a → x ≤ℤ int_max a y
still_right a x y h = omega (arith, ints, clamps)

new_left : (a y : ℤ) → int_min a y ≤ℤ y
new_left a y = omega (arith, ints, clamps)

new_right : (a y : ℤ) → y ≤ℤ int_max a y
new_right a y = omega (arith, ints, clamps)

itself : (x : ℤ) → x ≤ℤ x
itself x = omega (arith, ints)

widened_keeps : (r : Rect4) (p q : Point) → IsIn r p → IsIn (widened r q) p
widened_keeps r p q h =
    record {
      left = still_left r.x0 p.x q.x h.left;
      right = still_right r.x1 p.x q.x h.right;
      bottom = still_left r.y0 p.y q.y h.bottom;
      top = still_right r.y1 p.y q.y h.top;
    }

widened_holds : (r : Rect4) (q : Point) → IsIn (widened r q) q
widened_holds r q =
    record {
      left = new_left r.x0 q.x;
      right = new_right r.x1 q.x;
      bottom = new_left r.y0 q.y;
      top = new_right r.y1 q.y;
    }

alone : (q : Point) → IsIn (box_at q) q
alone q = record { left = itself q.x; right = itself q.x; bottom = itself q.y; top = itself q.y }

-- one box widened
pub put_keeps : (rs : List Rect4) (k : ℕ) (d r : Rect4) (q p : Point) → k < length rs → r ≡ widened (get_or rs k d) q
    → IsHeldBy rs p → IsHeldBy (set rs k r) p
put_keeps [] k d r q p l e h = absurd h
put_keeps (x ∷ xs) zero d r q p l e h =
    elim h [ inl i ↦ inl (subst (λ (z : Rect4). IsIn z p) (sym e) (widened_keeps x p q i)) | inr i ↦ inr i ]
put_keeps (x ∷ xs) (suc k) d r q p l e h =
    elim h [ inl i ↦ inl i | inr i ↦ inr (put_keeps xs k d r q p (omega arith) e i) ]

pub put_holds : (rs : List Rect4) (k : ℕ) (d r : Rect4) (q : Point) → k < length rs → r ≡ widened (get_or rs k d) q
    → IsHeldBy (set rs k r) q
put_holds [] k d r q l e = absurd (omega arith)
put_holds (x ∷ xs) zero d r q l e = inl (subst (λ (z : Rect4). IsIn z q) (sym e) (widened_holds x q))
put_holds (x ∷ xs) (suc k) d r q l e = inr (put_holds xs k d r q (omega arith) e)

-- one box more
pub added_keeps : (rs : List Rect4) (q p : Point) → IsHeldBy rs p → IsHeldBy (rs ++ (box_at q ∷ [])) p
added_keeps [] q p h = absurd h
added_keeps (x ∷ xs) q p h = elim h [ inl i ↦ inl i | inr i ↦ inr (added_keeps xs q p i) ]

pub added_holds : (rs : List Rect4) (q : Point) → IsHeldBy (rs ++ (box_at q ∷ [])) q
added_holds [] q = inl (alone q)
added_holds (x ∷ xs) q = inr (added_holds xs q)

below_is : (a b : ℕ) → a < b → nat_lt a b ≡ true
below_is a b h = search (rules, h)

min_small : (a b : ℤ) → unsigned_abs a ≤ 2 ^ 29 → unsigned_abs b ≤ 2 ^ 29 → unsigned_abs (int_min a b) ≤ 2 ^ 29
min_small a b h k = omega (arith, ints, clamps)

max_small : (a b : ℤ) → unsigned_abs a ≤ 2 ^ 29 → unsigned_abs b ≤ 2 ^ 29 → unsigned_abs (int_max a b) ≤ 2 ^ 29
max_small a b h k = omega (arith, ints, clamps)

pub widened_within : (r : Rect4) (p : Point) → IsBoxWithin r → IsWithin (2 ^ 29) p → IsBoxWithin (widened r p)
widened_within r p h k =
    record {
      left = min_small r.x0 p.x h.left k.0;
      right = max_small r.x1 p.x h.right k.0;
      bottom = min_small r.y0 p.y h.bottom k.1;
      top = max_small r.y1 p.y h.top k.1;
    }

pub alone_within : (p : Point) → IsWithin (2 ^ 29) p → IsBoxWithin (box_at p)
alone_within p k = record { left = k.0; right = k.0; bottom = k.1; top = k.1 }

pub grown_is : (r g : Rect4) (p : Point) → g.x0 ≡ int_min r.x0 p.x → g.y0 ≡ int_min r.y0 p.y → g.x1 ≡ int_max r.x1 p.x
    → g.y1 ≡ int_max r.y1 p.y → g ≡ widened r p
grown_is r g p a b c d = box_is_of _ _ _ _ _ _ _ _ a b c d

-- the goals up to a place are held
abbrev pub AreHeld : Mesh → List ℕ → ℕ → List Rect4 → Type 0
AreHeld m goals n boxes = (i g : ℕ) → i < n → get_or goals i g ≡ g → g < node_count m → IsHeldBy boxes (point_of m g)

pub none_held : (m : Mesh) (goals : List ℕ) (boxes : List Rect4) → AreHeld m goals 0 boxes
none_held m goals boxes i g l e h = absurd (omega (arith, l))

not_less : (i n : ℕ) → nat_lt i n ≡ false → i < n + 1 → i ≡ n
not_less i n t k = omega (arith, ltb-false i n t, k)

same_at : (goals : List ℕ) (n d g : ℕ) → n < length goals → get_or goals n g ≡ get_or goals n d
same_at [] n d g h = absurd (omega arith)
same_at (x ∷ xs) zero d g h = refl
same_at (x ∷ xs) (suc n) d g h = same_at xs n d g (omega arith)

pub one_more : (m : Mesh) (goals : List ℕ) (n v d : ℕ) (old new : List Rect4) → n < length goals → v ≡ get_or goals n d
    → AreHeld m goals n old → ((q : Point) → IsHeldBy old q → IsHeldBy new q)
    → (v < node_count m → IsHeldBy new (point_of m v)) → AreHeld m goals (n + 1) new
one_more m goals n v d old new l e f keeps holds i g k c h =
    by_cond (λ (x : ℕ). IsHeldBy new (point_of m g)) (nat_lt i n) 0 0
    (λ t. keeps (point_of m g) (f i g (ltb-true i n t) c h))
    (λ t. let is : v ≡ g = e ∙ sym (same_at goals n d g l) ∙ ap (λ (x : ℕ). get_or goals x g) (sym (not_less i n t k))
    ∙ c in
    subst (λ (x : ℕ). IsHeldBy new (point_of m x)) is (holds (subst (λ (x : ℕ). x < node_count m) (sym is) h)))

pub all_held : (m : Mesh) (goals : List ℕ) (n : ℕ) (boxes : List Rect4) → length goals ≤ n → All IsBoxWithin boxes
    → AreHeld m goals n boxes → AreAround m goals boxes
all_held m goals n boxes l w f = record { within = w; held = λ g c h. f c.0 g (omega (arith, l, c.1)) c.2 h }

-- ---- the way to it
above_none : (a b : ℤ) → a ≤ℤ b → above_by a b ≡ 0
above_none a b h = omega (arith, ints, clamps)

above_small : (a b : ℤ) → unsigned_abs a ≤ 2 ^ 29 → unsigned_abs b ≤ 2 ^ 29 → above_by a b ≤ 2 ^ 30
above_small a b h k = omega (arith, ints, clamps)

above_falls : (a x y : ℤ) → above_by a x ≤ unsigned_abs (y -ℤ x) + above_by a y
above_falls a x y = omega (arith, ints, clamps)

below_falls : (a x y : ℤ) → above_by x a ≤ unsigned_abs (y -ℤ x) + above_by y a
below_falls a x y = omega (arith, ints, clamps)

inside_none : (low high x : ℤ) → low ≤ℤ x → x ≤ℤ high → outside_of low high x ≡ 0
inside_none low high x h k = omega (arith, above_none low x h, above_none x high k)

nearer : (low high x y : ℤ) → outside_of low high x ≤ unsigned_abs (y -ℤ x) + outside_of low high y
nearer low high x y = omega (arith, above_falls low x y, below_falls high x y)

way_none : (r : Rect4) (p : Point) → IsIn r p → way_to r p ≡ 0
way_none r p h = omega (arith, inside_none r.x0 r.x1 p.x h.left h.right, inside_none r.y0 r.y1 p.y h.bottom h.top)

way_falls : (r : Rect4) (p q : Point) → way_to r p ≤ way_between p q + way_to r q
way_falls r p q = omega (arith, nearer r.x0 r.x1 p.x q.x, nearer r.y0 r.y1 p.y q.y)

least_falls : (w a b c d : ℕ) → a ≤ w + b → c ≤ w + d → min a c ≤ w + min b d
least_falls w a b c d h k = grind (arith, h, k)

least_small : (a c : ℕ) → min a c ≤ a
least_small a c = grind arith

folds_fall : (rs : List Rect4) (p q : Point) (a b : ℕ) → a ≤ way_between p q + b
    → fold (nearer_of p) a rs ≤ way_between p q + fold (nearer_of q) b rs
folds_fall [] p q a b h = h
folds_fall (r ∷ rs) p q a b h =
    folds_fall rs p q (min a (way_to r p)) (min b (way_to r q))
    (least_falls (way_between p q) a b (way_to r p) (way_to r q) h (way_falls r p q))

folds_small : (rs : List Rect4) (p : Point) (a : ℕ) → fold (nearer_of p) a rs ≤ a
folds_small [] p a = omega arith
folds_small (r ∷ rs) p a = omega (arith, folds_small rs p (min a (way_to r p)), least_small a (way_to r p))

least_none : (a c : ℕ) → c ≡ 0 → min a c ≡ 0
least_none a c h = grind (arith, h)

folds_none : (rs : List Rect4) (p : Point) (a : ℕ) → IsHeldBy rs p → fold (nearer_of p) a rs ≡ 0
folds_none [] p a h = absurd h
folds_none (r ∷ rs) p a h = elim h [
  | inl i ↦ omega (arith, folds_small rs p (min a (way_to r p)), least_none a (way_to r p) (way_none r p i))
  | inr i ↦ folds_none rs p (min a (way_to r p)) i
]

nearest_falls : (rs : List Rect4) (p q : Point) → way_to_nearest rs p ≤ way_between p q + way_to_nearest rs q
unfolding way_to_nearest
nearest_falls rs p q = folds_fall rs p q (2 ^ 31) (2 ^ 31) (omega arith)

pub nearest_small : (rs : List Rect4) (p : Point) → way_to_nearest rs p ≤ 2 ^ 31
unfolding way_to_nearest
nearest_small rs p = folds_small rs p (2 ^ 31)

nearest_none : (rs : List Rect4) (p : Point) → IsHeldBy rs p → way_to_nearest rs p ≡ 0
unfolding way_to_nearest
nearest_none rs p h = folds_none rs p (2 ^ 31) h

-- one box more is looked at
pub way_more : (p : Point) (rs : List Rect4) (i old new : ℕ) (d r : Rect4) → i < length rs → r ≡ get_or rs i d
    → old ≡ fold (nearer_of p) (2 ^ 31) (take i rs) → new ≡ nearer_of p old r
    → new ≡ fold (nearer_of p) (2 ^ 31) (take (i + 1) rs)
way_more p rs i old new d r h e was now =
    now ∙ (λ k. nearer_of p (was k) (e k)) ∙ sym (fold_more (nearer_of p) (2 ^ 31) rs i d h)

pub way_is : (p : Point) (n : ℕ) (rs xs : List Rect4) → xs ≡ rs → n ≡ fold (nearer_of p) (2 ^ 31) xs
    → n ≡ way_to_nearest rs p
unfolding way_to_nearest
way_is p n rs xs e f = f ∙ ap (fold (nearer_of p) (2 ^ 31)) e

-- ---- a via stays at its point
abbrev IsStill : Mesh → ℕ → Move → ℕ → Type 0
IsStill m v (Step dir) to = Unit {0}
IsStill m v (Via padstack layer) to = point_of m to ≡ point_of m v

abbrev IsWayStill : Mesh → ℕ → Option (Move × ℕ) → Type 0
IsWayStill m v None = Unit {0}
IsWayStill m v (Some w) = IsStill m v w.0 w.1

step_still : (m : Mesh) (v dir : ℕ) → IsWayStill m v (step_at m v dir)
step_still m v dir =
    let P : Option (Move × ℕ) → Type 0 = λ o. IsWayStill m v o in
    let l = level m v in let j = row m v in let i = column m v in
    by_cond P (dir == 0) (cond (nat_lt (i + 1) (length m.xs)) (Some (Step 0, node_at m l j (i + 1))) None)
    (cond (dir == 1) (cond (nat_lt 0 i) (Some (Step 1, node_at m l j (i - 1))) None)
    (cond (dir == 2) (cond (nat_lt (j + 1) (length m.ys)) (Some (Step 2, node_at m l (j + 1) i)) None)
    (cond (nat_lt 0 j) (Some (Step 3, node_at m l (j - 1) i)) None)))
    (λ a. by_cond P (nat_lt (i + 1) (length m.xs)) (Some (Step 0, node_at m l j (i + 1))) None (λ k. tt) (λ k. tt))
    (λ a. by_cond P (dir == 1) (cond (nat_lt 0 i) (Some (Step 1, node_at m l j (i - 1))) None)
    (cond (dir == 2) (cond (nat_lt (j + 1) (length m.ys)) (Some (Step 2, node_at m l (j + 1) i)) None)
    (cond (nat_lt 0 j) (Some (Step 3, node_at m l (j - 1) i)) None))
    (λ b. by_cond P (nat_lt 0 i) (Some (Step 1, node_at m l j (i - 1))) None (λ k. tt) (λ k. tt))
    (λ b. by_cond P (dir == 2) (cond (nat_lt (j + 1) (length m.ys)) (Some (Step 2, node_at m l (j + 1) i)) None)
    (cond (nat_lt 0 j) (Some (Step 3, node_at m l (j - 1) i)) None)
    (λ e. by_cond P (nat_lt (j + 1) (length m.ys)) (Some (Step 2, node_at m l (j + 1) i)) None (λ k. tt) (λ k. tt))
    (λ e. by_cond P (nat_lt 0 j) (Some (Step 3, node_at m l (j - 1) i)) None (λ k. tt) (λ k. tt))))

same_point : (m : Mesh) (v t : ℕ) → v < node_count m → point_of m (node_at m t (row m v) (column m v)) ≡ point_of m v
same_point m v t h =
    let i = column_below m v h in
    let j = row_below (length m.xs) (length m.ys) (length m.layers) v h in
    let at_column : column m (node_at m t (row m v) (column m v)) ≡ column m v =
    mod-mul-add (t * length m.ys + row m v) (length m.xs) (column m v) i in
    let at_row : row m (node_at m t (row m v) (column m v)) ≡ row m v =
    ap (λ (n : ℕ). n % length m.ys) (div-mul-add (t * length m.ys + row m v) (length m.xs) (column m v) i)
    ∙ mod-mul-add t (length m.ys) (row m v) j in
    λ k. (record { x = get_or m.xs (at_column k) (pos 0); y = get_or m.ys (at_row k) (pos 0) })

via_still : (d : Design) (m : Mesh) (v p t : ℕ) → v < node_count m → IsWayStill m v (via_at d m v p t)
via_still d m v p t h =
    let to = slice_index m.layers t in
    by_cond (IsWayStill m v) (can_join (padstack_pieces d p) (point_of m v) (layer_of m v) to)
    (Some (Via p to, node_at m t (row m v) (column m v))) None
    (λ e. same_point m v t h) (λ e. tt)

way_still : (d : Design) (m : Mesh) (net v i : ℕ) → v < node_count m → IsWayStill m v (way d m net v i)
way_still d m net v i h =
    by_cond (IsWayStill m v) (nat_lt i 4) (step_at m v i)
    (via_at d m v (slice_index (vias_of d net) ((i - 4) / length m.layers)) ((i - 4) % length m.layers))
    (λ e. step_still m v i)
    (λ e. via_still d m v (slice_index (vias_of d net) ((i - 4) / length m.layers)) ((i - 4) % length m.layers) h)

-- ---- the bound
move_falls : (m : Mesh) (rs : List Rect4) (via_cost v : ℕ) (mv : Move) (to : ℕ) → IsStill m v mv to
    → way_to_nearest rs (point_of m v) ≤ move_price m via_cost v mv to + way_to_nearest rs (point_of m to)
move_falls m rs via_cost v (Step dir) to s = nearest_falls rs (point_of m v) (point_of m to)
move_falls m rs via_cost v (Via padstack layer) to s = omega (arith, ap (way_to_nearest rs) s)

pub low_is : (m : Mesh) (rs : List Rect4) (v : ℕ) → v < node_count m → low_at m rs v ≡ way_to_nearest rs (point_of m v)
unfolding low_at
low_is m rs v h = ap (λ (b : Bool). cond b (way_to_nearest rs (point_of m v)) 0) (below_is v (node_count m) h)

low_none : (m : Mesh) (rs : List Rect4) (v : ℕ) → (v < node_count m → way_to_nearest rs (point_of m v) ≡ 0)
    → low_at m rs v ≡ 0
unfolding low_at
low_none m rs v f =
    by_cond (λ (n : ℕ). n ≡ 0) (nat_lt v (node_count m)) (way_to_nearest rs (point_of m v)) 0
    (λ e. f (ltb-true v (node_count m) e)) (λ e. refl)

pub low_out : (m : Mesh) (rs : List Rect4) (v : ℕ) → node_count m ≤ v → low_at m rs v ≡ 0
low_out m rs v h = low_none m rs v (λ k. absurd (omega (arith, h, k)))

pub bounds : (d : Design) (m : Mesh) (items : List Item) (net via_cost : ℕ) (goals : List ℕ) (boxes : List Rect4)
    → CanMove d m net via_cost → AreAround m goals boxes
    → IsBound (legal_graph d m items net via_cost) goals (low_at m boxes)
bounds d m items net via_cost goals rs can around = record {
  limit = λ v h. let e = low_is m rs v h in let s = nearest_small rs (point_of m v) in omega (arith, e, s);
  at_goals = λ g c. low_none m rs g (λ h. nearest_none rs (point_of m g) (around.held g c h));
  falls = λ v a h p.
      let to_in = way_leads d m net v a.index a.move a.to h p.leads in
      let still : IsStill m v a.move a.to = subst (IsWayStill m v) p.leads (way_still d m net v a.index h) in
      let paid : a.price ≡ move_price m via_cost v a.move a.to = p.costs ∙ ap (way_price m via_cost v) p.leads in
      let falls = move_falls m rs via_cost v a.move a.to still in
      let e = low_is m rs v h in
      let f = low_is m rs a.to to_in in
      omega (arith, paid, falls, e, f);
}
