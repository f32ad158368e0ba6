-- Shoved chains: one each way, of two points at least, within the bounds.
use Rattle.std.proofs.Common.{◌≡◌, ◌≢◌, ℕ, ℤ, ◌+◌, ◌<◌, ◌≤◌, ◌^◌, Bool, true, false, cond, List, [], ◌∷◌, ◌++◌, take}
use Rattle.std.proofs.Common.{drop, length, get_or, refl, ap, sym, ◌∙◌, subst, arith, inl, inr, append_assoc, Some}
use Rattle.std.specs.Prelude.{All, ◌&&◌, Contains, slice_get, unsigned_abs}
use Rattle.std.specs.Ordering.{int_eq}
use Rattle.std.proofs.lemmas.Int.{ints}
use Rattle.std.proofs.lemmas.List.{take_more}
use Rattle.std.proofs.lemmas.Option.{slice_get_within, get_or_from_slice_get, same_Some}
use Rattle.std.proofs.lemmas.List.Elements.{All-cons, All-head, All-tail, All-append, All-take, All-drop, All-contains}
use Rattle.geo_kernel.specs.declared.point.Point.{Point}
use Rattle.geo_kernel.specs.Plane.{IsWithin}
use Rattle.pcb_model.specs.declared.design.Design.{Design}
use Rattle.route_lattice.specs.Mesh.{Mesh}
use Rattle.route_lattice.specs.Fits.{FitsDesign}
use Rattle.route_lattice.proofs.Sets.{int_eq_exact}
use Rattle.shove.specs.Shoves.{IsNextLine, MovesRun, is_same_point, fresh_after, without_repeats, with_points}
use Rattle.shove.specs.Shoves.{IsShovedChain}

-- ---- one each way
one_line : (up : Bool) (lines : List ℤ) (at x y : ℤ) → IsNextLine up lines at x → IsNextLine up lines at y → x ≡ y
one_line true lines at x y h k =
    let a = h.next y k.there k.above in
    let b = k.next x h.there h.above in
    omega (arith, ints)
one_line false lines at x y h k =
    let a = h.next y k.there k.below in
    let b = k.next x h.there h.below in
    omega (arith, ints)

point : ℤ → ℤ → Point
point x y = record { x = x; y = y }

one_move : (m : Mesh) (up : Bool) (a b p q r s : Point) → MovesRun m up a b p q → MovesRun m up a b r s → (p ≡ r)
    × (q ≡ s)
one_move m up a b p q r s (inl h) (inl k) =
    let e = one_line up m.ys a.y h.line k.line h.next k.next in (
      h.to_a_is ∙ ap (λ (z : ℤ). record { x = a.x; y = z }) e ∙ sym k.to_a_is,
      h.to_b_is
          ∙ ap (λ (z : ℤ). record { x = b.x; y = z }) e ∙ sym k.to_b_is,
    )
one_move m up a b p q r s (inl h) (inr k) = absurd (k.apart h.one_y)
one_move m up a b p q r s (inr h) (inl k) = absurd (h.apart k.one_y)
one_move m up a b p q r s (inr h) (inr k) =
    let e = one_line up m.xs a.x h.line k.line h.next k.next in (
      h.to_a_is ∙ ap (λ (z : ℤ). record { x = z; y = a.y }) e ∙ sym k.to_a_is,
      h.to_b_is
          ∙ ap (λ (z : ℤ). record { x = z; y = b.y }) e ∙ sym k.to_b_is,
    )

pub one_chain : (m : Mesh) (chain : List Point) (r : ℕ) (up : Bool) (s t : List Point) → IsShovedChain m chain r up s
    → IsShovedChain m chain r up t → s ≡ t
one_chain m chain r up s t h k =
    let a = same_Some h.a k.a (sym h.a_is ∙ k.a_is) in
    let b = same_Some h.b k.b (sym h.b_is ∙ k.b_is) in
    let moved = one_move m up k.a k.b h.to_a h.to_b k.to_a k.to_b (subst (λ (p : Point
    × Point). MovesRun m up p.0 p.1 h.to_a h.to_b) (λ i. (a i, b i)) h.moves) k.moves in
    h.shoved_is ∙ (λ i. without_repeats (with_points chain r (moved.0 i) (moved.1 i))) ∙ sym k.shoved_is

-- ---- points
differ : (p q : Point) → p ≢ q → is_same_point p q ≡ false
differ p q apart = by (int_eq p.x q.x) (int_eq p.y q.y) refl refl
  where
    by : (e f : Bool) → int_eq p.x q.x ≡ e → int_eq p.y q.y ≡ f → (e && f) ≡ false
    by true true x y = absurd (apart (λ i. record { x = int_eq_exact p.x q.x x i; y = int_eq_exact p.y q.y y i }))
    by true false x y = refl
    by false f x y = refl

some_after : (p : Point) (us : List Point) (a c : Point) (vs : List Point) → is_same_point a c ≡ false
    → 1 ≤ length (fresh_after p (us ++ a ∷ c ∷ vs))
some_after p [] a c vs e = either (is_same_point p a)
  where
    either : (b : Bool) → 1 ≤ length (cond b (cond (is_same_point a c) (fresh_after c vs) (c ∷ fresh_after c vs))
        (a ∷ cond (is_same_point a c) (fresh_after c vs) (c ∷ fresh_after c vs)))
    either true = subst (λ (b : Bool). 1 ≤ length (cond b (fresh_after c vs) (c ∷ fresh_after c vs))) (sym e)
        (omega arith)
    either false = omega arith
some_after p (u ∷ us) a c vs e = either (is_same_point p u) (some_after u us a c vs e)
  where
    either : (b : Bool) → 1 ≤ length (fresh_after u (us ++ a ∷ c ∷ vs))
        → 1 ≤ length (cond b (fresh_after u (us ++ a ∷ c ∷ vs)) (u ∷ fresh_after u (us ++ a ∷ c ∷ vs)))
    either true h = h
    either false h = omega arith

two_points : (us : List Point) (a c : Point) (vs : List Point) → is_same_point a c ≡ false
    → 2 ≤ length (without_repeats (us ++ a ∷ c ∷ vs))
two_points [] a c vs e = subst (λ (b : Bool). 2 ≤ length (a ∷ cond b (fresh_after c vs) (c ∷ fresh_after c vs)))
    (sym e) (omega arith)
two_points (u ∷ us) a c vs e = let h = some_after u us a c vs e in omega arith

moved_off : (m : Mesh) (up : Bool) (a b p q : Point) → MovesRun m up a b p q → a ≢ p
moved_off m up a b p q (inl h) e = off up h.next (ap (λ (z : Point). z.y) (e ∙ h.to_a_is))
  where
    off : (up : Bool) → IsNextLine up m.ys a.y h.line → a.y ≡ h.line → ⊥
    off true n s = let l = n.above in omega (arith, ints)
    off false n s = let l = n.below in omega (arith, ints)
moved_off m up a b p q (inr h) e = off up h.next (ap (λ (z : Point). z.x) (e ∙ h.to_a_is))
  where
    off : (up : Bool) → IsNextLine up m.xs a.x h.line → a.x ≡ h.line → ⊥
    off true n s = let l = n.above in omega (arith, ints)
    off false n s = let l = n.below in omega (arith, ints)

pub enough_points : (m : Mesh) (chain : List Point) (r : ℕ) (up : Bool) (s : List Point)
    → IsShovedChain m chain r up s → 2 ≤ length s
enough_points m chain r up s h =
    let within : r < length chain = slice_get_within chain r h.a h.a_is in
    let at : get_or chain r h.a ≡ h.a = get_or_from_slice_get chain r h.a h.a h.a_is in
    let front : take (r + 1) chain ≡ take r chain ++ h.a ∷ [] = take_more chain r h.a within
    ∙ ap (λ (x : Point). take r chain ++ x ∷ []) at in
    let rest = h.to_b ∷ drop (r + 1) chain in
    let whole : with_points chain r h.to_a h.to_b
    ≡ take r chain ++ h.a ∷ h.to_a ∷ rest = ap (λ (xs : List Point). xs ++ h.to_a ∷ rest) front
    ∙ append_assoc (take r chain) (h.a ∷ []) (h.to_a ∷ rest) in
    subst (λ (xs : List Point). 2 ≤ length xs) (sym (h.shoved_is
    ∙ ap without_repeats whole)) (two_points (take r chain) h.a h.to_a rest
    (differ h.a h.to_a (moved_off m up h.a h.b h.to_a h.to_b h.moves)))

-- ---- bounds
fresh_all : (P : Point → Type 0) (p : Point) (qs : List Point) → All P qs → All P (fresh_after p qs)
fresh_all P p [] h = h
fresh_all P p (q ∷ qs) h = either (is_same_point p q) (fresh_all P q qs (All-tail P q qs h))
  where
    either : (b : Bool) → All P (fresh_after q qs) → All P (cond b (fresh_after q qs) (q ∷ fresh_after q qs))
    either true k = k
    either false k = All-cons P q (fresh_after q qs) (All-head P q qs h) k

repeats_all : (P : Point → Type 0) (ps : List Point) → All P ps → All P (without_repeats ps)
repeats_all P [] h = h
repeats_all P (p ∷ ps) h = All-cons P p (fresh_after p ps) (All-head P p ps h) (fresh_all P p ps (All-tail P p ps h))

line_there : (up : Bool) (lines : List ℤ) (at line : ℤ) → IsNextLine up lines at line → Contains lines line
line_there true lines at line h = h.there
line_there false lines at line h = h.there

moved_within : (d : Design) (m : Mesh) (up : Bool) (a b p q : Point) → FitsDesign d m → IsWithin (2 ^ 29) a
    → IsWithin (2 ^ 29) b → MovesRun m up a b p q → IsWithin (2 ^ 29) p × IsWithin (2 ^ 29) q
moved_within d m up a b p q fits wa wb (inl h) =
    let w = All-contains (λ z. unsigned_abs z ≤ 2 ^ 29) m.ys h.line fits.ys_within
    (line_there up m.ys a.y h.line h.next) in
    (subst (IsWithin (2 ^ 29)) (sym h.to_a_is) (wa.0, w), subst (IsWithin (2 ^ 29)) (sym h.to_b_is) (wb.0, w))
moved_within d m up a b p q fits wa wb (inr h) =
    let w = All-contains (λ z. unsigned_abs z ≤ 2 ^ 29) m.xs h.line fits.xs_within
    (line_there up m.xs a.x h.line h.next) in
    (subst (IsWithin (2 ^ 29)) (sym h.to_a_is) (w, wa.1), subst (IsWithin (2 ^ 29)) (sym h.to_b_is) (w, wb.1))

at_in : (P : Point → Type 0) (chain : List Point) (k : ℕ) (p : Point) → All P chain → slice_get chain k ≡ Some p → P p
at_in P chain k p all e = subst P (get_or_from_slice_get chain k p p e) (all k p (slice_get_within chain k p e))

pub chain_within : (d : Design) (m : Mesh) (chain : List Point) (r : ℕ) (up : Bool) (s : List Point) → FitsDesign d m
    → All (IsWithin (2 ^ 29)) chain → IsShovedChain m chain r up s → All (IsWithin (2 ^ 29)) s
chain_within d m chain r up s fits all h =
    let W = IsWithin (2 ^ 29) in
    let moved = moved_within d m up h.a h.b h.to_a h.to_b fits (at_in W chain r h.a all h.a_is)
    (at_in W chain (r + 1) h.b all h.b_is) h.moves in
    subst (All W) (sym h.shoved_is) (repeats_all W (with_points chain r h.to_a h.to_b)
    (All-append W (take (r + 1) chain) (h.to_a ∷ h.to_b ∷ drop (r + 1) chain) (All-take W (r + 1) chain all)
    (All-cons W h.to_a (h.to_b ∷ drop (r + 1) chain) moved.0
    (All-cons W h.to_b (drop (r + 1) chain) moved.1 (All-drop W (r + 1) chain all)))))
