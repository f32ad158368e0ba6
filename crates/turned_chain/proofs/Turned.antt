-- A chain in the other direction has the same segments, each the other way round, and begins where the chain ended.
use Rattle.std.proofs.Common.{◌≡◌, ℕ, ◌+◌, ◌*◌, ◌-◌, ◌%◌, ◌<◌, ◌≤◌, ◌⊎◌, inl, inr, ⊎_elim, List, [], ◌∷◌, ◌++◌, All}
use Rattle.std.proofs.Common.{Any, ℤ, pos}
use Rattle.std.proofs.Common.{◌+ℤ◌, ◌-ℤ◌, ◌*ℤ◌, ◌≤ℤ◌, Bool, refl, sym, ap, ap₂, ◌∙◌, subst, arith, reverse, count_by}
use Rattle.std.proofs.lemmas.Grind.{reverse_onto}
use Rattle.std.proofs.lemmas.List.{append_assoc, append-nil}
use Rattle.std.proofs.lemmas.Int.{ints}
use Rattle.std.proofs.lemmas.List.Elements.{All-nil, All-cons, All-head, All-tail, All-append}
use Rattle.geo_kernel.specs.declared.point.Point.{Point}
use Rattle.geo_kernel.specs.declared.spine.Spine.{Spine}
use Rattle.geo_kernel.specs.declared.spine.Spine.TheVariants.{Chain, Area}
use Rattle.geo_kernel.specs.Plane.{apart, distance_at, squared, SegmentsKeep, SegmentsTouch}
use Rattle.geo_kernel.specs.Nearest.{Cross}
use Rattle.geo_kernel.specs.Spine.{Segment, links, last_of, chain_segments, loop_segments, area_segments}
use Rattle.geo_kernel.specs.Spine.{spine_segments}
use Rattle.geo_kernel.specs.Spine.{is_right, IsInside, BeginInside, BeginsInside, Keeps, Touches, KeepsAll}
use Rattle.geo_kernel.specs.Spine.{TouchesSome}
use Rattle.geo_kernel.specs.Spine.{SpinesKeep, SpinesTouch, closed}
use Rattle.geo_kernel.proofs.Parity.{xor, odd, NoneCross, same_parity}
use Rattle.geo_kernel.proofs.Paths.{bit, Any-here, Any-there, Any-cases, Any-nil, All-append_first, All-append_second}
use Rattle.geo_kernel.proofs.Segments.{less, cross_touches, nothing_kept}
use Rattle.geo_kernel.proofs.Solid.{odd-append, count_odd}
use Rattle.spine_cover.proofs.Deciding.{touch_stands}
use Rattle.turned_chain.specs.Turned.{KeepsFromEdges}

-- ---- a list the other way round, before another one
abbrev pub onto : List Point → List Point → List Point
onto [] ys = ys
onto (x ∷ xs) ys = onto xs (x ∷ ys)

onto_is : (xs ys : List Point) → onto xs ys ≡ reverse xs ++ ys
onto_is [] ys = refl
onto_is (x ∷ xs) ys =
    onto_is xs (x ∷ ys) ∙ sym (append_assoc (reverse xs) (x ∷ []) ys)
    ∙ ap (λ zs. zs ++ ys) (sym (reverse_onto xs x []))

reverse_is : (xs : List Point) → onto xs [] ≡ reverse xs
reverse_is xs = onto_is xs [] ∙ append-nil (reverse xs)

-- ---- one segment the other way round
abbrev pub flipped : Segment → Segment
flipped g = record { from = g.to; to = g.from }

twice_less : (n s : ℕ) → s ≤ n → n - (n - s) ≡ s
twice_less n s h = omega arith

apart_flipped : (n s t : ℕ) (p q i j : ℤ) → s ≤ n → apart n s t q p i j ≡ apart n (n - s) t p q i j
apart_flipped n s t p q i j h =
    ap (λ z. z -ℤ (pos (n - t) *ℤ i +ℤ pos t *ℤ j))
    (swap (pos (n - s) *ℤ q) (pos s *ℤ p) ∙ ap (λ m. pos m *ℤ p +ℤ pos (n - s) *ℤ q) (sym (twice_less n s h)))
  where
    swap : (a b : ℤ) → a +ℤ b ≡ b +ℤ a
    swap a b = omega (arith, ints)

distance_flipped : (n s t : ℕ) (a b c d : Point) → s ≤ n → distance_at n s t b a c d ≡ distance_at n (n - s) t a b c d
distance_flipped n s t a b c d h =
    ap₂ squared (apart_flipped n s t a.x b.x c.x d.x h) (apart_flipped n s t a.y b.y c.y d.y h)

pub keeps_flipped : (k : ℕ) (g h : Segment) → Keeps k g h → Keeps k (flipped g) h
keeps_flipped k g h keeps = record {
  keep = λ n s t some p q.
      let at_less : (n - s) ≤ n = omega arith in
      subst (λ z. pos (k * k * (n * n)) ≤ℤ (pos 4 *ℤ z)) (sym (distance_flipped n s t g.from g.to h.from h.to p))
      (keeps.keep n (n - s) t some at_less q);
}

pub touches_flipped : (k : ℕ) (g h : Segment) → Touches k g h → Touches k (flipped g) h
touches_flipped k g h x = record {
  n = x.n;
  s = x.n - x.s;
  t = x.t;
  some = x.some;
  s_within = omega arith;
  t_within = x.t_within;
  touch = subst (λ z. (pos 4 *ℤ z) ≤ℤ pos (k * k * (x.n * x.n))) (back x.n x.s x.t x.s_within) x.touch;
}
  where
    back : (n s t : ℕ) → s ≤ n → distance_at n s t g.from g.to h.from h.to
        ≡ distance_at n (n - s) t g.to g.from h.from h.to
    back n s t p = distance_flipped n s t g.to g.from h.from h.to p

-- ---- all segments
abbrev way : List Point → List Segment
way [] = []
way (p ∷ ps) = links p ps

module _ (P : Segment → Type 0) where
  all_turned : (xs : List Point) (y : Point) (ys : List Point) → All (λ g. P (flipped g)) (links y xs)
      → All P (links y ys) → All P (way (onto xs (y ∷ ys)))
  all_turned [] y ys h k = k
  all_turned (x ∷ xs) y ys h k =
      let Q : Segment → Type 0 = λ g. P (flipped g) in
      let g : Segment = record { from = y; to = x } in
      all_turned xs x (y ∷ ys) (All-tail Q g (links x xs) h)
      (All-cons P (flipped g) (links y ys) (All-head Q g (links x xs) h) k)

  any_turned : (xs : List Point) (y : Point) (ys : List Point) →
      (Any (λ g. P (flipped g)) (links y xs) ⊎ Any P (links y ys)) → Any P (way (onto xs (y ∷ ys)))
  any_turned [] y ys (inl a) = absurd (Any-nil (λ g. P (flipped g)) a)
  any_turned [] y ys (inr b) = b
  any_turned (x ∷ xs) y ys (inl a) =
      let Q : Segment → Type 0 = λ g. P (flipped g) in
      let g : Segment = record { from = y; to = x } in
      any_turned xs x (y ∷ ys)
      (⊎_elim (λ here. inr (Any-here P (flipped g) (links y ys) here)) (λ rest. inl rest)
      (Any-cases Q g (links x xs) a))
  any_turned (x ∷ xs) y ys (inr b) =
      let g : Segment = record { from = y; to = x } in
      any_turned xs x (y ∷ ys) (inr (Any-there P (flipped g) (links y ys) b))

-- of two points or more the segments are the ways between neighbours
segments_way : (xs : List Point) (y z : Point) (ys : List Point)
    → chain_segments (onto xs (y ∷ z ∷ ys)) ≡ way (onto xs (y ∷ z ∷ ys))
segments_way [] y z ys = refl
segments_way (x ∷ xs) y z ys = segments_way xs x y (z ∷ ys)

all_onto : (P : Segment → Type 0) → ((g : Segment) → P g → P (flipped g)) → (c : List Point)
    → All P (chain_segments c) → All P (chain_segments (onto c []))
all_onto P f [] h = h
all_onto P f (p ∷ []) h = h
all_onto P f (p ∷ q ∷ qs) h =
    subst (All P) (sym (segments_way qs q p []))
    (all_turned P (q ∷ qs) p [] (λ i d l. f _ (h i d l)) (All-nil P))

pub all_reverse : (P : Segment → Type 0) → ((g : Segment) → P g → P (flipped g)) → (c : List Point)
    → All P (chain_segments c) → All P (chain_segments (reverse c))
all_reverse P f c h = subst (λ xs. All P (chain_segments xs)) (reverse_is c) (all_onto P f c h)

any_onto : (P : Segment → Type 0) → ((g : Segment) → P g → P (flipped g)) → (c : List Point)
    → Any P (chain_segments c) → Any P (chain_segments (onto c []))
any_onto P f [] h = h
any_onto P f (p ∷ []) h = h
any_onto P f (p ∷ q ∷ qs) h =
    subst (Any P) (sym (segments_way qs q p []))
    (any_turned P (q ∷ qs) p [] (inl (h.0, h.1, h.2, h.3, f _ h.4)))

pub any_reverse : (P : Segment → Type 0) → ((g : Segment) → P g → P (flipped g)) → (c : List Point)
    → Any P (chain_segments c) → Any P (chain_segments (reverse c))
any_reverse P f c h = subst (λ xs. Any P (chain_segments xs)) (reverse_is c) (any_onto P f c h)

-- ---- where it begins
-- the first of the points is inside exactly where the last one was
pub begin_turned : (loops : List (List Point)) (xs : List Point) (y : Point) (ys : List Point)
    → BeginInside (onto xs (y ∷ ys)) loops → IsInside (last_of y xs) loops
begin_turned loops [] y ys h = h
begin_turned loops (x ∷ xs) y ys h = begin_turned loops xs x (y ∷ ys) h

pub begin_back : (loops : List (List Point)) (xs : List Point) (y : Point) (ys : List Point)
    → IsInside (last_of y xs) loops → BeginInside (onto xs (y ∷ ys)) loops
begin_back loops [] y ys h = h
begin_back loops (x ∷ xs) y ys h = begin_back loops xs x (y ∷ ys) h

-- ---- along a chain that crosses no edge the parity stays
abbrev pub Clear : Segment → Segment → Type 0
Clear g h = ¬ (Cross g.from g.to h.from h.to)

abbrev pub ClearAll : List Segment → Segment → Type 0
ClearAll edges g = All (Clear g) edges

none_cross : (g : Segment) (u : Point) (vs : List Point) → ClearAll (links u vs) g → NoneCross g.from g.to u vs
none_cross g u [] h = tt
none_cross g u (v ∷ vs) h =
    let e : Segment = record { from = u; to = v } in
    (All-head (Clear g) e (links v vs) h, none_cross g v vs (All-tail (Clear g) e (links v vs) h))

loop_same : (g : Segment) (loop : List Point) → ClearAll (loop_segments loop) g
    → odd (is_right g.from) (loop_segments loop) ≡ odd (is_right g.to) (loop_segments loop)
loop_same g [] h = refl
loop_same g (q ∷ qs) h =
    same_parity g.from g.to (last_of q qs) (q ∷ qs) refl (none_cross g (last_of q qs) (q ∷ qs) h)

area_same : (g : Segment) (loops : List (List Point)) → ClearAll (area_segments loops) g
    → odd (is_right g.from) (area_segments loops) ≡ odd (is_right g.to) (area_segments loops)
area_same g [] h = refl
area_same g (loop ∷ loops) h =
    odd-append (is_right g.from) (loop_segments loop) (area_segments loops)
    ∙ ap₂ xor (loop_same g loop (All-append_first (Clear g) (loop_segments loop) (area_segments loops) h))
    (area_same g loops (All-append_second (Clear g) (loop_segments loop) (area_segments loops) h))
    ∙ sym (odd-append (is_right g.to) (loop_segments loop) (area_segments loops))

path_same : (loops : List (List Point)) (u : Point) (vs : List Point)
    → All (ClearAll (area_segments loops)) (links u vs)
    → odd (is_right u) (area_segments loops) ≡ odd (is_right (last_of u vs)) (area_segments loops)
path_same loops u [] h = refl
path_same loops u (v ∷ vs) h =
    let g : Segment = record { from = u; to = v } in
    area_same g loops (All-head (ClearAll (area_segments loops)) g (links v vs) h)
    ∙ path_same loops v vs (All-tail (ClearAll (area_segments loops)) g (links v vs) h)

-- so one end is inside where the other is
told : (p q : Point) (edges : List Segment) → odd (is_right p) edges ≡ odd (is_right q) edges
    → count_by (is_right p) edges % 2 ≡ count_by (is_right q) edges % 2
told p q edges e = count_odd (is_right p) edges ∙ ap bit e ∙ sym (count_odd (is_right q) edges)

pub ends_inside : (loops : List (List Point)) (u : Point) (vs : List Point)
    → All (ClearAll (area_segments loops)) (links u vs) → IsInside u loops → IsInside (last_of u vs) loops
ends_inside loops u vs h in_it =
    sym (told u (last_of u vs) (area_segments loops) (path_same loops u vs h)) ∙ in_it

pub begins_inside : (loops : List (List Point)) (u : Point) (vs : List Point)
    → All (ClearAll (area_segments loops)) (links u vs) → IsInside (last_of u vs) loops → IsInside u loops
begins_inside loops u vs h in_it = told u (last_of u vs) (area_segments loops) (path_same loops u vs h) ∙ in_it

-- the segments of a chain are clear where those of its points are; of one point there is nothing to be asked
path_clear : (edges : List Segment) (p : Point) (ps : List Point) → All (ClearAll edges) (chain_segments (p ∷ ps))
    → All (ClearAll edges) (links p ps)
path_clear edges p [] h = All-nil (ClearAll edges)
path_clear edges p (q ∷ qs) h = h

-- ---- a chain that is clear of an area begins inside it where its turned one does
pub turned_begins : (loops : List (List Point)) (c : List Point)
    → All (ClearAll (area_segments loops)) (chain_segments c)
    → BeginInside c loops → BeginInside (reverse c) loops
turned_begins loops [] h b = b
turned_begins loops (p ∷ ps) h b =
    subst (λ xs. BeginInside xs loops) (reverse_is (p ∷ ps))
    (begin_back loops ps p [] (ends_inside loops p ps (path_clear (area_segments loops) p ps h) b))

pub turned_began : (loops : List (List Point)) (c : List Point)
    → All (ClearAll (area_segments loops)) (chain_segments c)
    → BeginInside (reverse c) loops → BeginInside c loops
turned_began loops [] h b = b
turned_began loops (p ∷ ps) h b =
    begins_inside loops p ps (path_clear (area_segments loops) p ps h)
    (begin_turned loops ps p [] (subst (λ xs. BeginInside xs loops) (sym (reverse_is (p ∷ ps))) b))

-- ---- keeping
keeps_clear : (k : ℕ) → 0 < k → (t : Spine) (g : Segment) → KeepsAll k t g → ClearAll (spine_segments t) g
keeps_clear k some t g h i d l x = nothing_kept _ _ _ _ k some x (h i d l)

pub turned_keeps : (c : List Point) (t : Spine) (k : ℕ) → 0 < k → SpinesKeep (Chain c) t k
    → SpinesKeep (Chain (reverse c)) t k
turned_keeps c (Chain ps) k some h = record {
  segments = all_reverse (KeepsAll k (Chain ps)) (λ g a i d l. keeps_flipped k g _ (a i d l)) c h.segments;
  s_outside = λ x. x;
  t_outside = λ x. x;
}
turned_keeps c (Area loops) k some h = record {
  segments = all_reverse (KeepsAll k (Area loops)) (λ g a i d l. keeps_flipped k g _ (a i d l)) c h.segments;
  s_outside = λ x. h.s_outside
      (turned_began loops c (λ i d l. keeps_clear k some (Area loops) _ (h.segments i d l)) x);
  t_outside = λ x. x;
}

-- ---- touching
flipped_some : (k : ℕ) (t : Spine) (g : Segment) → TouchesSome k t g → TouchesSome k t (flipped g)
flipped_some k t g (i, h, l, e, x) = (i, h, l, e, touches_flipped k g h x)

none_clear : (k : ℕ) (t : Spine) (gs : List Segment) → ¬ (Any (TouchesSome k t) gs)
    → All (ClearAll (spine_segments t)) gs
none_clear k t [] none = All-nil (ClearAll (spine_segments t))
none_clear k t (g ∷ gs) none =
    All-cons (ClearAll (spine_segments t)) g gs
    (clear_of (spine_segments t) (λ a. none (Any-here (TouchesSome k t) g gs a)))
    (none_clear k t gs (λ a. none (Any-there (TouchesSome k t) g gs a)))
  where
    clear_of : (hs : List Segment) → ¬ (Any (Touches k g) hs) → All (Clear g) hs
    clear_of [] free = All-nil (Clear g)
    clear_of (h ∷ hs) free =
        All-cons (Clear g) h hs
        (λ x. free (Any-here (Touches k g) h hs (cross_touches g.from g.to h.from h.to k x)))
        (clear_of hs (λ a. free (Any-there (Touches k g) h hs a)))

pub turned_touches : (c : List Point) (t : Spine) (k : ℕ) → SpinesTouch (Chain c) t k
    → SpinesTouch (Chain (reverse c)) t k
turned_touches c t k (inl x) = inl (any_reverse (TouchesSome k t) (flipped_some k t) c x)
turned_touches c (Chain ps) k (inr (inl x)) = absurd x
turned_touches c (Area loops) k (inr (inl x)) =
    touch_stands (Chain (reverse c)) (Area loops) k
    (λ none. none (inr (inl (turned_begins loops c
    (none_clear k (Area loops) (chain_segments c)
    (λ a. none (inl (any_reverse (TouchesSome k (Area loops)) (flipped_some k (Area loops)) c a)))) x))))
turned_touches c t k (inr (inr x)) = absurd x

-- ---- boundaries
split_last : (P : Segment → Type 0) (p : Point) (ps : List Point) (r : Point) → All P (links p (ps ++ r ∷ []))
    → All P (links p ps) × P (record { from = last_of p ps; to = r })
split_last P p [] r h = (All-nil P, All-head P (record { from = p; to = r }) [] h)
split_last P p (q ∷ qs) r h =
    let g : Segment = record { from = p; to = q } in
    let rest = split_last P q qs r (All-tail P g (links q (qs ++ r ∷ [])) h) in
    (All-cons P g (links q qs) (All-head P g (links q (qs ++ r ∷ [])) h) rest.0, rest.1)

closed_loop : (P : Segment → Type 0) (loop : List Point) → All P (chain_segments (closed loop))
    → All P (loop_segments loop)
closed_loop P [] h = h
closed_loop P (p ∷ []) h = h
closed_loop P (p ∷ q ∷ qs) h =
    let both = split_last P p (q ∷ qs) p h in
    All-cons P (record { from = last_of p (q ∷ qs); to = p }) (links p (q ∷ qs)) both.1 both.0

edges_clear : (g : Segment) (loops : List (List Point))
    → All (λ loop. ClearAll (chain_segments (closed loop)) g) loops → ClearAll (area_segments loops) g
edges_clear g [] h = All-nil (Clear g)
edges_clear g (loop ∷ loops) h =
    let Q : List Point → Type 0 = λ x. ClearAll (chain_segments (closed x)) g in
    All-append (Clear g) (loop_segments loop) (area_segments loops)
    (closed_loop (Clear g) loop (All-head Q loop loops h)) (edges_clear g loops (All-tail Q loop loops h))

pub turned_inside : (c : List Point) (loops : List (List Point)) → KeepsFromEdges c loops → BeginInside c loops
    → BeginInside (reverse c) loops
turned_inside c loops keeps b =
    turned_begins loops c
    (λ i d l. edges_clear _ loops
    (λ j e m. keeps_clear (keeps j e m).0 (keeps j e m).1 (Chain (closed _)) _ ((keeps j e m).2.segments i d l)))
    b
