-- The least box of points, one after another and at once.
use Rattle.std.proofs.Common.{◌≡◌, ℕ, zero, suc, ℤ, ◌<◌, ◌≤◌, ◌+◌, ◌^◌, ◌≤ℤ◌, arith, refl, sym, ap, ◌∙◌, subst, List}
use Rattle.std.proofs.Common.{[], ◌∷◌, ◌++◌, length, take, get_or, flat_map, All, Any, inl, inr, unsigned_abs}
use Rattle.std.specs.Prelude.{map, fold, Contains, ◌⊎◌}
use Rattle.std.specs.Int.{int_min, int_max}
use Rattle.std.proofs.lemmas.Int.{ints, clamps, fold-int_min_bounds, fold-int_max_bounds, fold-int_min_reached}
use Rattle.std.proofs.lemmas.Int.{fold-int_max_reached}
use Rattle.std.proofs.lemmas.List.{take_more, map-append, flat_map_more}
use Rattle.std.proofs.lemmas.List.Sums.{fold-append}
use Rattle.std.proofs.lemmas.List.Elements.{All-nil, All-cons, All-head, All-tail, All-append}
use Rattle.geo_kernel.specs.declared.point.Point.{Point}
use Rattle.geo_kernel.specs.declared.point.Rect4.{Rect4}
use Rattle.geo_kernel.specs.Boxes.{IsIn, IsLeastBox}
use Rattle.geo_kernel.specs.Plane.{IsWithin}
use Rattle.geo_kernel.proofs.Growing.{box_is_of}
use Rattle.geo_kernel.proofs.Paths.{Any-here, Any-there}
use Rattle.pcb_model.specs.declared.design.Design.{Design}
use Rattle.pcb_model.specs.Bounds.{IsBoundFit}
use Rattle.pcb_model.specs.Sound.{IsSound}
use Rattle.route_lattice.specs.Gather.{widened, first_points, least_box, outline_of}
use Rattle.route_lattice.specs.Parts.{IsBoxWithin}

abbrev pub box_at : Point → Rect4
box_at p = record { x0 = p.x; y0 = p.y; x1 = p.x; y1 = p.y }

-- ---- points, one after another
side : (f : ℤ → ℤ → ℤ) (a : ℤ) (g : Point → ℤ) (ps qs : List Point) → fold f (fold f a (map g ps)) (map g qs)
    ≡ fold f a (map g (ps ++ qs))
side f a g ps qs = sym (fold-append f a (map g ps) (map g qs)) ∙ ap (fold f a) (sym (map-append g ps qs))

widened_then : (r : Rect4) (ps qs : List Point) → widened (widened r ps) qs ≡ widened r (ps ++ qs)
widened_then r ps qs =
    box_is_of _ _ _ _ _ _ _ _ (side int_min r.x0 (λ (p : Point). p.x) ps qs)
    (side int_min r.y0 (λ (p : Point). p.y) ps qs) (side int_max r.x1 (λ (p : Point). p.x) ps qs)
    (side int_max r.y1 (λ (p : Point). p.y) ps qs)

pub widened_more : (r q : Rect4) (ps : List Point) (i : ℕ) (d : Point) → i < length ps → q ≡ widened r (take i ps)
    → widened q (get_or ps i d ∷ []) ≡ widened r (take (i + 1) ps)
widened_more r q ps i d h e =
    ap (λ (b : Rect4). widened b (get_or ps i d ∷ [])) e ∙ widened_then r (take i ps) (get_or ps i d ∷ [])
    ∙ ap (widened r) (sym (take_more ps i d h))

pub widened_loops : (r q : Rect4) (loops : List (List Point)) (i : ℕ) (d ps : List Point) → i < length loops
    → ps ≡ get_or loops i d → q ≡ widened r (flat_map (λ x. x) (take i loops))
    → widened q ps ≡ widened r (flat_map (λ x. x) (take (i + 1) loops))
widened_loops r q loops i d ps h f e =
    ap (λ (b : Rect4). widened b ps) e ∙ widened_then r (flat_map (λ x. x) (take i loops)) ps
    ∙ ap (λ (qs : List Point). widened r (flat_map (λ x. x) (take i loops) ++ qs)) f
    ∙ ap (widened r)
    (flat_map_more (λ x. x) [] (take i loops) (get_or loops i d)
    ∙ ap (flat_map (λ x. x)) (sym (take_more loops i d h)))

-- the first point twice
min_same : (z : ℤ) → int_min z z ≡ z
min_same z = omega (arith, ints, clamps)

max_same : (z : ℤ) → int_max z z ≡ z
max_same z = omega (arith, ints, clamps)

twice : (p : Point) (ps : List Point) → widened (box_at p) (p ∷ ps) ≡ least_box (p ∷ ps)
twice p ps = box_is_of _ _ _ _ _ _ _ _
    (ap (λ z. fold int_min z (map (λ (q : Point). q.x) ps)) (min_same p.x))
    (ap (λ z. fold int_min z (map (λ (q : Point). q.y) ps)) (min_same p.y))
    (ap (λ z. fold int_max z (map (λ (q : Point). q.x) ps)) (max_same p.x))
    (ap (λ z. fold int_max z (map (λ (q : Point). q.y) ps)) (max_same p.y))

begins : {X : Type 0} (xs : List X) (x d : X) → 0 < length xs → x ≡ get_or xs 0 d → (rest : List X) × (xs ≡ x ∷ rest)
begins [] x d h e = absurd (omega arith)
begins (y ∷ ys) x d h e = (ys, ap (λ z. z ∷ ys) (sym e))

from_first : (bounds : List (List (List Point))) (loops : List (List Point)) (points : List Point) (p : Point)
    → (bs : List (List (List Point))) × (bounds ≡ loops ∷ bs) → (ls : List (List Point)) × (loops ≡ points ∷ ls)
    → (ps : List Point) × (points ≡ p ∷ ps)
    → widened (box_at p) (flat_map (λ x. x) loops) ≡ least_box (first_points bounds)
from_first bounds loops points p (bs, e) (ls, f) (ps, g) =
    let begun : flat_map (λ x. x) loops ≡ p ∷ (ps ++ flat_map (λ x. x) ls) =
    ap (flat_map (λ x. x)) f ∙ ap (λ (qs : List Point). qs ++ flat_map (λ x. x) ls) g in
    ap (widened (box_at p)) begun ∙ twice p (ps ++ flat_map (λ x. x) ls) ∙ ap least_box (sym begun)
    ∙ ap least_box (ap first_points (sym e))

-- the box from the first point on is the outline
pub outline_value : (d : Design) → IsSound d → (loops l : List (List Point)) (points q : List Point) (p o : Point)
    → loops ≡ get_or d.bounds 0 l → points ≡ get_or loops 0 q → p ≡ get_or points 0 o
    → widened (box_at p) (flat_map (λ x. x) loops) ≡ outline_of d
outline_value d s loops l points q p o e f g =
    let bs = begins d.bounds loops l s.parts.some_bounds e in
    let fit = All-head IsBoundFit loops bs.0 (subst (All IsBoundFit) bs.1 s.fits.bounds_fit) in
    let ls = begins loops points q fit.some f in
    let long = All-head (λ (ps : List Point). 3 ≤ length ps) points ls.0
    (subst (All (λ (ps : List Point). 3 ≤ length ps)) ls.1 fit.loops_close) in
    from_first d.bounds loops points p bs ls (begins points p o (omega (arith, long)) g)

-- ---- the box is the least
all_mapped : (P : ℤ → Type 0) (g : Point → ℤ) (ps : List Point) → All P (map g ps) → All (λ p. P (g p)) ps
all_mapped P g [] h = All-nil (λ p. P (g p))
all_mapped P g (p ∷ ps) h =
    All-cons (λ q. P (g q)) p ps (All-head P (g p) (map g ps) h) (all_mapped P g ps (All-tail P (g p) (map g ps) h))

any_mapped : (g : Point → ℤ) (ps : List Point) (z : ℤ) → Contains (map g ps) z → Any (λ q. g q ≡ z) ps
any_mapped g [] z (k, h, e) = absurd (omega arith)
any_mapped g (p ∷ ps) z (zero, h, e) = Any-here (λ q. g q ≡ z) p ps e
any_mapped g (p ∷ ps) z (suc k, h, e) = Any-there (λ q. g q ≡ z) p ps (any_mapped g ps z (k, omega arith, e))

reached : (g : Point → ℤ) (p : Point) (ps : List Point) (z : ℤ) → (z ≡ g p) ⊎ Contains (map g ps) z
    → Any (λ q. g q ≡ z) (p ∷ ps)
reached g p ps z (inl e) = Any-here (λ q. g q ≡ z) p ps (sym e)
reached g p ps z (inr m) = Any-there (λ q. g q ≡ z) p ps (any_mapped g ps z m)

least_is : (p : Point) (ps : List Point) → IsLeastBox (p ∷ ps) (least_box (p ∷ ps))
least_is p ps =
    let gx : Point → ℤ = λ q. q.x in
    let gy : Point → ℤ = λ q. q.y in
    let r = least_box (p ∷ ps) in
    let a = fold-int_min_bounds p.x (map gx ps) r.x0 refl in
    let b = fold-int_max_bounds p.x (map gx ps) r.x1 refl in
    let c = fold-int_min_bounds p.y (map gy ps) r.y0 refl in
    let e = fold-int_max_bounds p.y (map gy ps) r.y1 refl in
    let a' = all_mapped (λ z. r.x0 ≤ℤ z) gx ps a.1 in
    let b' = all_mapped (λ z. z ≤ℤ r.x1) gx ps b.1 in
    let c' = all_mapped (λ z. r.y0 ≤ℤ z) gy ps c.1 in
    let e' = all_mapped (λ z. z ≤ℤ r.y1) gy ps e.1 in record {
      within = All-cons (IsIn r) p ps (record { left = a.0; right = b.0; bottom = c.0; top = e.0 })
          (λ k d l. record { left = a' k d l; right = b' k d l; bottom = c' k d l; top = e' k d l });
      left = reached gx p ps r.x0 (fold-int_min_reached p.x (map gx ps) r.x0 refl);
      right = reached gx p ps r.x1 (fold-int_max_reached p.x (map gx ps) r.x1 refl);
      bottom = reached gy p ps r.y0 (fold-int_min_reached p.y (map gy ps) r.y0 refl);
      top = reached gy p ps r.y1 (fold-int_max_reached p.y (map gy ps) r.y1 refl);
    }

at_loops : (loops : List (List Point)) → 0 < length loops → All (λ points. 3 ≤ length points) loops
    → IsLeastBox (flat_map (λ x. x) loops) (least_box (flat_map (λ x. x) loops))
at_loops [] h a = absurd (omega arith)
at_loops ([] ∷ ls) h a =
    absurd (let e = All-head (λ (points : List Point). 3 ≤ length points) [] ls a in omega (arith, e))
at_loops ((p ∷ ps) ∷ ls) h a = least_is p (ps ++ flat_map (λ x. x) ls)

at_bounds : (bounds : List (List (List Point))) → 1 ≤ length bounds → All IsBoundFit bounds
    → IsLeastBox (first_points bounds) (least_box (first_points bounds))
at_bounds [] h a = absurd (omega arith)
at_bounds (loops ∷ bs) h a = let f = All-head IsBoundFit loops bs a in at_loops loops f.some f.loops_close

pub outline_least : (d : Design) → IsSound d → IsLeastBox (first_points d.bounds) (outline_of d)
outline_least d s = at_bounds d.bounds s.parts.some_bounds s.fits.bounds_fit

-- ---- and within 2^29
flat_within : (loops : List (List Point)) → All (All (IsWithin (2 ^ 29))) loops
    → All (IsWithin (2 ^ 29)) (flat_map (λ x. x) loops)
flat_within [] h = All-nil (IsWithin (2 ^ 29))
flat_within (l ∷ ls) h =
    All-append (IsWithin (2 ^ 29)) l (flat_map (λ x. x) ls) (All-head (All (IsWithin (2 ^ 29))) l ls h)
    (flat_within ls (All-tail (All (IsWithin (2 ^ 29))) l ls h))

points_within : (bounds : List (List (List Point))) → All IsBoundFit bounds
    → All (IsWithin (2 ^ 29)) (first_points bounds)
points_within [] h = All-nil (IsWithin (2 ^ 29))
points_within (loops ∷ bs) h = flat_within loops (All-head IsBoundFit loops bs h).loops_within

side_within : (g : Point → ℤ) (m : ℕ) (ps : List Point) (z : ℤ) → Any (λ q. g q ≡ z) ps
    → All (λ q. unsigned_abs (g q) ≤ m) ps → unsigned_abs z ≤ m
side_within g m ps z (k, q, l, e, h) a = subst (λ w. unsigned_abs w ≤ m) (ap g e ∙ h) (a k q l)

pub outline_within : (d : Design) → IsSound d → IsBoxWithin (outline_of d)
outline_within d s =
    let ps = first_points d.bounds in
    let b = outline_least d s in
    let w = points_within d.bounds s.fits.bounds_fit in
    let wx : All (λ q. unsigned_abs q.x ≤ 2 ^ 29) ps = λ k e l. (w k e l).0 in
    let wy : All (λ q. unsigned_abs q.y ≤ 2 ^ 29) ps = λ k e l. (w k e l).1 in record {
      left = side_within (λ (q : Point). q.x) (2 ^ 29) ps _ b.left wx;
      right = side_within (λ (q : Point). q.x) (2 ^ 29) ps _ b.right wx;
      bottom = side_within (λ (q : Point). q.y) (2 ^ 29) ps _ b.bottom wy;
      top = side_within (λ (q : Point). q.y) (2 ^ 29) ps _ b.top wy;
    }

-- so is the least box of any points within 2^29
pub least_within : (ps : List Point) → 0 < length ps → All (IsWithin (2 ^ 29)) ps → IsBoxWithin (least_box ps)
least_within [] some w = absurd (omega arith)
least_within (p ∷ qs) some w =
    let ps = p ∷ qs in
    let b = least_is p qs in
    let wx : All (λ q. unsigned_abs q.x ≤ 2 ^ 29) ps = λ k e l. (w k e l).0 in
    let wy : All (λ q. unsigned_abs q.y ≤ 2 ^ 29) ps = λ k e l. (w k e l).1 in record {
      left = side_within (λ (q : Point). q.x) (2 ^ 29) ps _ b.left wx;
      right = side_within (λ (q : Point). q.x) (2 ^ 29) ps _ b.right wx;
      bottom = side_within (λ (q : Point). q.y) (2 ^ 29) ps _ b.bottom wy;
      top = side_within (λ (q : Point). q.y) (2 ^ 29) ps _ b.top wy;
    }
