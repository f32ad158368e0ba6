-- The way along the axes to the nearest box, shortened, is a bound for walks with diagonals.
use Rattle.std.proofs.Common.{◌≡◌, ℕ, ℤ, pos, negsuc, ◌+◌, ◌-◌, ◌*◌, ◌<◌, ◌≤◌, ◌^◌, ◌+ℤ◌, ◌-ℤ◌, ◌*ℤ◌, ◌/◌, ◌%◌, refl}
use Rattle.std.proofs.Common.{sym, ap, ◌∙◌, subst, arith, inl, inr, ◌⊎◌, List, [], ◌∷◌, unsigned_abs}
use Rattle.std.specs.Prelude.{fold, min}
use Rattle.std.proofs.lemmas.Int.{ints, clamps}
use Rattle.std.proofs.lemmas.Nat.{div-add-mod', mod_below}
use Rattle.geo_kernel.specs.declared.point.Point.{Point}
use Rattle.geo_kernel.specs.declared.point.Rect4.{Rect4}
use Rattle.pcb_model.specs.declared.item.Item.{Item}
use Rattle.pcb_model.specs.declared.design.Design.{Design}
use Rattle.route_lattice.specs.Mesh.{Mesh, node_count, point_of}
use Rattle.route_lattice.specs.Walks.{Hop, Opens}
use Rattle.route_lattice.specs.Ways.{way_count}
use Rattle.route_lattice.specs.Legal.{way_between, legal_graph, CanMove}
use Rattle.path_wire.specs.Diagonals.{diagonal_price, wide_graph}
use Rattle.path_wire.proofs.Dirs.{along_x, along_y, IsAhead}
use Rattle.wave_search.specs.Around.{above_by, outside_of, way_to, nearer_of, way_to_nearest, low_at}
use Rattle.wave_search.specs.Bounds.{IsBound}
use Rattle.wave_search.proofs.Around.{low_is, low_out, nearest_small}
use Rattle.diag_moves.specs.Bounds.{shorter}
use Rattle.diag_moves.proofs.Wide.{either_side, opens_legal, opens_diagonal, pays_diagonal}

-- ---- the way to the nearest box falls by no more than the way along the axes
above_falls : (a x y : ℤ) → above_by a x ≤ unsigned_abs (y -ℤ x) + above_by a y
above_falls a x y = omega (arith, ints, clamps)

below_falls : (a x y : ℤ) → above_by x a ≤ unsigned_abs (y -ℤ x) + above_by y a
below_falls a x y = omega (arith, ints, clamps)

nearer : (low high x y : ℤ) → outside_of low high x ≤ unsigned_abs (y -ℤ x) + outside_of low high y
nearer low high x y = omega (arith, above_falls low x y, below_falls high x y)

way_falls : (r : Rect4) (p q : Point) → way_to r p ≤ way_between p q + way_to r q
way_falls r p q = omega (arith, nearer r.x0 r.x1 p.x q.x, nearer r.y0 r.y1 p.y q.y)

least_falls : (w a b c d : ℕ) → a ≤ w + b → c ≤ w + d → min a c ≤ w + min b d
least_falls w a b c d h k = grind (arith, h, k)

folds_fall : (rs : List Rect4) (p q : Point) (a b : ℕ) → a ≤ way_between p q + b
    → fold (nearer_of p) a rs ≤ way_between p q + fold (nearer_of q) b rs
folds_fall [] p q a b h = h
folds_fall (r ∷ rs) p q a b h =
    folds_fall rs p q (min a (way_to r p)) (min b (way_to r q))
    (least_falls (way_between p q) a b (way_to r p) (way_to r q) h (way_falls r p q))

nearest_falls : (rs : List Rect4) (p q : Point) → way_to_nearest rs p ≤ way_between p q + way_to_nearest rs q
unfolding way_to_nearest
nearest_falls rs p q = folds_fall rs p q (2 ^ 31) (2 ^ 31) (omega arith)

-- it is small
pub low_small : (m : Mesh) (rs : List Rect4) (v : ℕ) → low_at m rs v ≤ 2 ^ 31
low_small m rs v = elim (either_side v (node_count m)) [
  | inl there ↦ (let e = low_is m rs v there in let s = nearest_small rs (point_of m v) in omega (arith, e, s))
  | inr out ↦ (let e = low_out m rs v out in omega (arith, e))
]

-- ---- shortened
less_short : (p a b qa ra qb rb : ℕ) → qa * 1000000 + ra ≡ a * 707107 → qb * 1000000 + rb ≡ b * 707107
    → rb < 1000000 → a ≤ p + b → qa ≤ p + qb
less_short p a b qa ra qb rb e f k h = omega (arith, e, f, k, h)

less_slope : (g a b qa ra qb rb qg rg : ℕ) → qa * 1000000 + ra ≡ a * 707107 → qb * 1000000 + rb ≡ b * 707107
    → qg * 1000000 + rg ≡ g * 1414214 + 999999 → rb < 1000000 → rg < 1000000 → a ≤ g + g + b → qa ≤ qg + qb
less_slope g a b qa ra qb rb qg rg e f i k l h = omega (arith, e, f, i, k, l, h)

shorter_falls : (p a b : ℕ) → a ≤ p + b → shorter a ≤ p + shorter b
unfolding shorter
shorter_falls p a b h =
    less_short p a b (a * 707107 / 1000000) (a * 707107 % 1000000) (b * 707107 / 1000000) (b * 707107 % 1000000)
    (div-add-mod' (a * 707107) 1000000) (div-add-mod' (b * 707107) 1000000)
    (mod_below (b * 707107) 1000000 (omega arith)) h

slope_falls : (g a b : ℕ) → a ≤ g + g + b → shorter a ≤ diagonal_price g + shorter b
unfolding shorter
slope_falls g a b h =
    less_slope g a b (a * 707107 / 1000000) (a * 707107 % 1000000) (b * 707107 / 1000000) (b * 707107 % 1000000)
    ((g * 1414214 + 999999) / 1000000) ((g * 1414214 + 999999) % 1000000)
    (div-add-mod' (a * 707107) 1000000) (div-add-mod' (b * 707107) 1000000)
    (div-add-mod' (g * 1414214 + 999999) 1000000) (mod_below (b * 707107) 1000000 (omega arith))
    (mod_below (g * 1414214 + 999999) 1000000 (omega arith)) h

shorter_less : (a : ℕ) → shorter a ≤ a
unfolding shorter
shorter_less a = by a (a * 707107 / 1000000) (a * 707107 % 1000000) (div-add-mod' (a * 707107) 1000000)
  where
    by : (a q r : ℕ) → q * 1000000 + r ≡ a * 707107 → q ≤ a
    by a q r e = omega (arith, e)

shorter_none : (a : ℕ) → a ≡ 0 → shorter a ≡ 0
unfolding shorter
shorter_none a e = ap (λ (n : ℕ). n * 707107 / 1000000) e

-- ---- a diagonal goes as far along x as along y
-- the direction is one from 4 to 7
four : (n : ℕ) → n < 4 → (4 + n ≡ 4) ⊎ ((4 + n ≡ 5) ⊎ ((4 + n ≡ 6) ⊎ (4 + n ≡ 7)))
four n small = grind arith

both_ways : (xv yv xw yw : ℤ) (g : ℕ) (a b : ℤ) → (a ≡ pos 1) ⊎ (a ≡ negsuc 0) → (b ≡ pos 1) ⊎ (b ≡ negsuc 0)
    → xw ≡ xv +ℤ pos g *ℤ a → yw ≡ yv +ℤ pos g *ℤ b
    → unsigned_abs (xw -ℤ xv) + unsigned_abs (yw -ℤ yv) ≡ unsigned_abs (xw -ℤ xv) + unsigned_abs (xw -ℤ xv)
both_ways xv yv xw yw g a b (inl i) (inl j) e f = by (e ∙ ap (λ (z : ℤ). xv +ℤ pos g *ℤ z) i)
    (f ∙ ap (λ (z : ℤ). yv +ℤ pos g *ℤ z) j)
  where
    by : xw ≡ xv +ℤ pos g *ℤ pos 1 → yw ≡ yv +ℤ pos g *ℤ pos 1
        → unsigned_abs (xw -ℤ xv) + unsigned_abs (yw -ℤ yv) ≡ unsigned_abs (xw -ℤ xv) + unsigned_abs (xw -ℤ xv)
    by h k = omega (arith, ints)
both_ways xv yv xw yw g a b (inl i) (inr j) e f = by (e ∙ ap (λ (z : ℤ). xv +ℤ pos g *ℤ z) i)
    (f ∙ ap (λ (z : ℤ). yv +ℤ pos g *ℤ z) j)
  where
    by : xw ≡ xv +ℤ pos g *ℤ pos 1 → yw ≡ yv +ℤ pos g *ℤ negsuc 0
        → unsigned_abs (xw -ℤ xv) + unsigned_abs (yw -ℤ yv) ≡ unsigned_abs (xw -ℤ xv) + unsigned_abs (xw -ℤ xv)
    by h k = omega (arith, ints)
both_ways xv yv xw yw g a b (inr i) (inl j) e f = by (e ∙ ap (λ (z : ℤ). xv +ℤ pos g *ℤ z) i)
    (f ∙ ap (λ (z : ℤ). yv +ℤ pos g *ℤ z) j)
  where
    by : xw ≡ xv +ℤ pos g *ℤ negsuc 0 → yw ≡ yv +ℤ pos g *ℤ pos 1
        → unsigned_abs (xw -ℤ xv) + unsigned_abs (yw -ℤ yv) ≡ unsigned_abs (xw -ℤ xv) + unsigned_abs (xw -ℤ xv)
    by h k = omega (arith, ints)
both_ways xv yv xw yw g a b (inr i) (inr j) e f = by (e ∙ ap (λ (z : ℤ). xv +ℤ pos g *ℤ z) i)
    (f ∙ ap (λ (z : ℤ). yv +ℤ pos g *ℤ z) j)
  where
    by : xw ≡ xv +ℤ pos g *ℤ negsuc 0 → yw ≡ yv +ℤ pos g *ℤ negsuc 0
        → unsigned_abs (xw -ℤ xv) + unsigned_abs (yw -ℤ yv) ≡ unsigned_abs (xw -ℤ xv) + unsigned_abs (xw -ℤ xv)
    by h k = omega (arith, ints)

abbrev IsUnit : ℤ → Type 0
IsUnit z = (z ≡ pos 1) ⊎ (z ≡ negsuc 0)

units : (k : ℕ) → (k ≡ 4) ⊎ ((k ≡ 5) ⊎ ((k ≡ 6) ⊎ (k ≡ 7))) → IsUnit (along_x k) × IsUnit (along_y k)
units k (inl e) = subst (λ (n : ℕ). IsUnit (along_x n) × IsUnit (along_y n)) (sym e) (inl refl, inl refl)
units k (inr (inl e)) = subst (λ (n : ℕ). IsUnit (along_x n) × IsUnit (along_y n)) (sym e) (inr refl, inl refl)
units k (inr (inr (inl e))) = subst (λ (n : ℕ). IsUnit (along_x n) × IsUnit (along_y n)) (sym e) (inr refl, inr refl)
units k (inr (inr (inr e))) = subst (λ (n : ℕ). IsUnit (along_x n) × IsUnit (along_y n)) (sym e) (inl refl, inr refl)

pub twice_across : (n : ℕ) (p q : Point) → n < 4 → IsAhead (4 + n) p q
    → way_between p q ≡ unsigned_abs (q.x -ℤ p.x) + unsigned_abs (q.x -ℤ p.x)
twice_across n p q small a =
    let u = units (4 + n) (four n small) in
    both_ways p.x p.y q.x q.y a.gap (along_x (4 + n)) (along_y (4 + n)) u.0 u.1 a.x_is a.y_is

-- ---- the bound
module _ (d : Design) (m : Mesh) (items : List Item) (net via_cost : ℕ) (goals : List ℕ) (boxes : List Rect4)
    (can : CanMove d m net via_cost) where
  diagonal_falls : (v : ℕ) (hop : Hop) → v < node_count m → Opens (wide_graph d m items net via_cost) v hop
      → way_count d m net ≤ hop.index → shorter (low_at m boxes v) ≤ hop.price + shorter (low_at m boxes hop.to)
  diagonal_falls v hop there o last =
      let p = point_of m v in
      let q = point_of m hop.to in
      let g = unsigned_abs (q.x -ℤ p.x) in
      let dia = opens_diagonal d m items net via_cost v hop o can.fits there last in
      let small : hop.index - way_count d m net < 4 = let l = o.listed in omega (arith, l, last) in
      let twice = twice_across (hop.index - way_count d m net) p q small dia.straight.ahead in
      let e = low_is m boxes v there in
      let f = low_is m boxes hop.to dia.there in
      let falls = nearest_falls boxes p q in
      let h : low_at m boxes v ≤ g + g + low_at m boxes hop.to = omega (arith, e, f, falls, twice) in
      let paid = pays_diagonal d m items net via_cost v hop o last in
      subst (λ (n : ℕ). shorter (low_at m boxes v) ≤ n + shorter (low_at m boxes hop.to)) (sym paid)
      (slope_falls g (low_at m boxes v) (low_at m boxes hop.to) h)

  pub wide_bound : IsBound (legal_graph d m items net via_cost) goals (low_at m boxes)
      → IsBound (wide_graph d m items net via_cost) goals (λ v. shorter (low_at m boxes v))
  wide_bound legal = record {
    limit = λ v h. let a = legal.limit v h in let b = shorter_less (low_at m boxes v) in omega (arith, a, b);
    at_goals = λ g c. shorter_none (low_at m boxes g) (legal.at_goals g c);
    falls = λ v hop h o. elim (either_side hop.index (way_count d m net)) [
      | inl first ↦ shorter_falls hop.price (low_at m boxes v) (low_at m boxes hop.to)
          (legal.falls v hop h (opens_legal d m items net via_cost v hop o first))
      | inr last ↦ diagonal_falls v hop h o last
    ];
  }
