-- The least box of points, one after another.
use Rattle.std.proofs.Common.{◌≡◌, ℕ, ◌+◌, ◌<◌, List, [], ◌∷◌, ◌++◌, take, get_or, flat_map, length, All, Any, ◌⊎◌, inl}
use Rattle.std.proofs.Common.{inr, ⊎_elim, ℤ, ◌≤ℤ◌, refl, sym, ap, ◌∙◌, subst, arith}
use Rattle.std.proofs.lemmas.List.{take_more, append-nil, append_assoc}
use Rattle.std.proofs.lemmas.Int.{ints, clamps, by_lt_z}
use Rattle.std.proofs.lemmas.List.Elements.{All-nil, All-cons, All-head, All-tail, All-append}
use Rattle.std.specs.Int.{int_min, int_max}
use Rattle.geo_kernel.specs.declared.point.Point.{Point}
use Rattle.geo_kernel.specs.declared.point.Rect4.{Rect4}
use Rattle.geo_kernel.specs.declared.spine.Spine.{Spine}
use Rattle.geo_kernel.specs.declared.spine.Spine.TheVariants.{Chain, Area}
use Rattle.geo_kernel.specs.Spine.{vertices, IsFirst}
use Rattle.geo_kernel.specs.Boxes.{IsIn, IsLeastBox, IsBoxOf}
use Rattle.geo_kernel.specs.Grown.{IsGrown}
use Rattle.geo_kernel.proofs.Paths.{Any-here, Any-cases, Any-append_first, Any-append_second}

-- ---- the two ends of a number line
min_left : (x y : ℤ) → int_min x y ≤ℤ x
min_left x y = omega (arith, ints, clamps)

min_right : (x y : ℤ) → int_min x y ≤ℤ y
min_right x y = omega (arith, ints, clamps)

max_left : (x y : ℤ) → x ≤ℤ int_max x y
max_left x y = omega (arith, ints, clamps)

max_right : (x y : ℤ) → y ≤ℤ int_max x y
max_right x y = omega (arith, ints, clamps)

min_is : (x y : ℤ) → (x ≡ int_min x y) ⊎ (y ≡ int_min x y)
min_is x y = by_lt_z y x (λ l. inr (omega (arith, ints, clamps))) (λ l. inl (omega (arith, ints, clamps)))

max_is : (x y : ℤ) → (x ≡ int_max x y) ⊎ (y ≡ int_max x y)
max_is x y = by_lt_z y x (λ l. inl (omega (arith, ints, clamps))) (λ l. inr (omega (arith, ints, clamps)))

at_most : (x y z : ℤ) → x ≤ℤ y → y ≤ℤ z → x ≤ℤ z
at_most x y z h k = omega (arith, ints)

-- ---- one more point
abbrev pub widened : Rect4 → Point → Rect4
widened r p = record { x0 = int_min r.x0 p.x; y0 = int_min r.y0 p.y; x1 = int_max r.x1 p.x; y1 = int_max r.y1 p.y }

module _ (r : Rect4) (p : Point) where
  wider : (q : Point) → IsIn r q → IsIn (widened r p) q
  wider q h = record {
    left = at_most _ _ _ (min_left r.x0 p.x) h.left;
    right = at_most _ _ _ h.right (max_left r.x1 p.x);
    bottom = at_most _ _ _ (min_left r.y0 p.y) h.bottom;
    top = at_most _ _ _ h.top (max_left r.y1 p.y);
  }

  wide_enough : IsIn (widened r p) p
  wide_enough =
      record {
        left = min_right r.x0 p.x;
        right = max_right r.x1 p.x;
        bottom = min_right r.y0 p.y;
        top = max_right r.y1 p.y;
      }

-- f of some point is the old value a, and the new value b is a or that of p
reached : (f : Point → ℤ) (a b : ℤ) (p : Point) (seen : List Point) → (a ≡ b) ⊎ (f p ≡ b) → Any (λ q. f q ≡ a) seen
    → Any (λ q. f q ≡ b) (seen ++ p ∷ [])
reached f a b p seen (inl e) h = let F : ℤ → Type 0 = λ z. Any (λ q. f q ≡ z) (seen ++ p ∷ []) in
    subst F e (Any-append_first (λ q. f q ≡ a) seen (p ∷ []) h)
reached f a b p seen (inr e) h = Any-append_second (λ q. f q ≡ b) seen (p ∷ []) (Any-here (λ q. f q ≡ b) p [] e)

all-then : {X : Type 0} (P Q : X → Type 0) → ((x : X) → P x → Q x) → (xs : List X) → All P xs → All Q xs
all-then P Q f xs h = λ k d l. f _ (h k d l)

grown_one : (r : Rect4) (p : Point) → IsGrown r (widened r p) (p ∷ [])
grown_one r p = record {
  grown = λ seen h. record {
    within = All-append (IsIn (widened r p)) seen (p ∷ [])
        (all-then (IsIn r) (IsIn (widened r p)) (wider r p) seen h.within)
        (All-cons (IsIn (widened r p)) p [] (wide_enough r p) (All-nil (IsIn (widened r p))));
    left = reached (λ q. q.x) _ _ p seen (min_is r.x0 p.x) h.left;
    right = reached (λ q. q.x) _ _ p seen (max_is r.x1 p.x) h.right;
    bottom = reached (λ q. q.y) _ _ p seen (min_is r.y0 p.y) h.bottom;
    top = reached (λ q. q.y) _ _ p seen (max_is r.y1 p.y) h.top;
  };
}

-- ---- as the loops go on
grown_then : (r q t : Rect4) (ps qs : List Point) → IsGrown r q ps → IsGrown q t qs → IsGrown r t (ps ++ qs)
grown_then r q t ps qs h k =
    record {
      grown = λ seen b. let F : List Point → Type 0 = λ xs. IsLeastBox xs t in
          subst F (append_assoc seen ps qs) (k.grown (seen ++ ps) (h.grown seen b));
    }

flat-append : (ls : List (List Point)) (l : List Point) → flat_map (λ x. x) (ls ++ l ∷ []) ≡ flat_map (λ x. x) ls ++ l
flat-append [] l = append-nil l
flat-append (x ∷ ls) l = ap (λ xs. x ++ xs) (flat-append ls l) ∙ sym (append_assoc x (flat_map (λ y. y) ls) l)

pub grown_next : (r q t : Rect4) (points : List Point) (i : ℕ) (d : Point) → i < length points
    → t ≡ widened q (get_or points i d) → IsGrown r q (take i points) → IsGrown r t (take (i + 1) points)
grown_next r q t points i d l e h =
    let F : List Point → Type 0 = λ ps. IsGrown r t ps in
    let G : Rect4 → Type 0 = λ x. IsGrown q x (get_or points i d ∷ []) in
    subst F (sym (take_more points i d l)) (grown_then r q t _ _ h (subst G (sym e) (grown_one q (get_or points i d))))

pub grown_more : (r q t : Rect4) (loops : List (List Point)) (i : ℕ) (d ps : List Point) → i < length loops
    → ps ≡ get_or loops i d → IsGrown q t ps → IsGrown r q (flat_map (λ x. x) (take i loops))
    → IsGrown r t (flat_map (λ x. x) (take (i + 1) loops))
grown_more r q t loops i d ps l e g h =
    let F : List Point → Type 0 = λ xs. IsGrown r t xs in
    let same = ap (flat_map (λ x. x)) (take_more loops i d l) ∙ flat-append (take i loops) (get_or loops i d) in
    subst F (sym same)
    (subst (λ (xs : List Point). IsGrown r t (flat_map (λ x. x) (take i loops) ++ xs)) e (grown_then r q t _ _ h g))

-- the first point twice
once : (P : Point → Type 0) (p : Point) (ps : List Point) → Any P (p ∷ p ∷ ps) → Any P (p ∷ ps)
once P p ps h = ⊎_elim (λ a. Any-here P p ps a) (λ a. a) (Any-cases P p (p ∷ ps) h)

pub least_at : (p : Point) → IsLeastBox (p ∷ []) (record { x0 = p.x; y0 = p.y; x1 = p.x; y1 = p.y })
least_at p =
    let box : Rect4 = record { x0 = p.x; y0 = p.y; x1 = p.x; y1 = p.y } in
    let low : (z : ℤ) → z ≤ℤ z = λ z. omega (arith, ints) in record {
      within = All-cons (IsIn box) p [] (record { left = low p.x; right = low p.x; bottom = low p.y; top = low p.y })
          (All-nil (IsIn box));
      left = Any-here (λ q. q.x ≡ p.x) p [] refl;
      right = Any-here (λ q. q.x ≡ p.x) p [] refl;
      bottom = Any-here (λ q. q.y ≡ p.y) p [] refl;
      top = Any-here (λ q. q.y ≡ p.y) p [] refl;
    }

least_once : (r : Rect4) (p : Point) (ps : List Point) → IsLeastBox (p ∷ p ∷ ps) r → IsLeastBox (p ∷ ps) r
least_once r p ps h = record {
  within = All-tail (IsIn r) p (p ∷ ps) h.within;
  left = once (λ q. q.x ≡ r.x0) p ps h.left;
  right = once (λ q. q.x ≡ r.x1) p ps h.right;
  bottom = once (λ q. q.y ≡ r.y0) p ps h.bottom;
  top = once (λ q. q.y ≡ r.y1) p ps h.top;
}

-- the vertices begin with the first vertex
vertices_from : (s : Spine) (p : Point) → IsFirst s p → (rest : List Point) × (vertices s ≡ p ∷ rest)
vertices_from (Chain ps) p f = (f.rest, f.is)
vertices_from (Area []) p f = (f.rest, f.is)
vertices_from (Area (l ∷ ls)) p f = (f.rest ++ flat_map (λ x. x) ls, ap (λ xs. xs ++ flat_map (λ x. x) ls) f.is)

pub box_is : (s : Spine) (p : Point) (r q : Rect4) (ps : List Point) → IsFirst s p
    → r ≡ record { x0 = p.x; y0 = p.y; x1 = p.x; y1 = p.y } → vertices s ≡ ps → IsGrown r q ps → IsBoxOf s q
box_is s p r q ps f e g h =
    let v = vertices_from s p f in
    let F : List Point → Type 0 = λ xs. IsLeastBox xs q in
    let all : IsLeastBox (p ∷ ps) q = h.grown (p ∷ []) (subst (IsLeastBox (p ∷ [])) (sym e) (least_at p)) in
    subst F (sym v.1) (least_once q p v.0 (subst (λ (xs : List Point). IsLeastBox (p ∷ xs) q) (sym g ∙ v.1) all))

pub box_is_of : (x0 y0 x1 y1 z0 w0 z1 w1 : ℤ) → x0 ≡ z0 → y0 ≡ w0 → x1 ≡ z1 → y1 ≡ w1
    → (let r : Rect4 = record { x0 = x0; y0 = y0; x1 = x1; y1 = y1 } in r)
    ≡ record { x0 = z0; y0 = w0; x1 = z1; y1 = w1 }
box_is_of x0 y0 x1 y1 z0 w0 z1 w1 e f g h = cc

pub span_ends : (r q : Rect4) (a b : Point) → r ≡ record { x0 = a.x; y0 = a.y; x1 = a.x; y1 = a.y } → q ≡ widened r b
    → IsIn q a × IsIn q b
span_ends r q a b e f =
    let box : Rect4 = record { x0 = a.x; y0 = a.y; x1 = a.x; y1 = a.y } in
    let here : IsIn box a = All-head (IsIn box) a [] (least_at a).within in (
      subst (λ (t : Rect4). IsIn t a) (sym f) (wider r b a (subst (λ (t : Rect4). IsIn t a) (sym e) here)),
      subst (λ (t : Rect4). IsIn t b) (sym f) (wide_enough r b),
    )
