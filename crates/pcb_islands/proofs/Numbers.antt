-- Lists of numbers that ascend.
use Rattle.std.proofs.Common.{◌≡◌, ◌≢◌, ℕ, ◌<◌, ◌≤◌, List, [], ◌∷◌, length, refl, sym, ◌∙◌, ap, subst, inl, inr, arith}
use Rattle.std.specs.Prelude.{Contains}
use Rattle.std.specs.List.Sorted.{IsStrictlySortedBy}
use Rattle.std.specs.Ordering.{nat_cmp}
use Prim.Native.Nat.{suc}
use Rattle.std.proofs.lemmas.Map.Keys.{sorted_tail, below_from_sorted}
use Rattle.pcb_islands.proofs.Elements.{in_none, in_here, in_later, in_cons}
use Rattle.pcb_islands.proofs.Pads.{same_or_not}

abbrev pub Climbs : List ℕ → Type 0
Climbs xs = IsStrictlySortedBy nat_cmp xs

climbs_on : (x : ℕ) (xs : List ℕ) → Climbs (x ∷ xs) → Climbs xs
climbs_on x xs up = sorted_tail nat_cmp x xs up

-- the head is the least
head_below : (x : ℕ) (xs : List ℕ) → Climbs (x ∷ xs) → (z : ℕ) → Contains xs z → x < z
head_below x xs up z h =
    subst (λ (v : ℕ). x < v) h.2 (below_from_sorted (x ∷ xs) 0 (suc h.0) z up (omega arith) (omega (arith, h.1)))

at_least_head : (x : ℕ) (xs : List ℕ) → Climbs (x ∷ xs) → (z : ℕ) → Contains (x ∷ xs) z → x ≤ z
at_least_head x xs up z h =
    elim (in_cons x z xs h) [ inl e ↦ omega arith | inr more ↦ omega (arith, head_below x xs up z more) ]

-- what is of the longer list, and isn't its head
past_head : (y : ℕ) (ys : List ℕ) (z : ℕ) → Contains (y ∷ ys) z → y < z → Contains ys z
past_head y ys z h less = elim (in_cons y z ys h) [ inl e ↦ absurd (omega arith) | inr more ↦ more ]

-- a head that differs lies past the other
head_past : (x y : ℕ) (ys : List ℕ) → Climbs (y ∷ ys) → Contains (y ∷ ys) x → x ≢ y → y < x
head_past x y ys up h apart =
    elim (in_cons y x ys h) [ inl e ↦ absurd (apart (sym e)) | inr more ↦ head_below y ys up x more ]

-- a part of a list is no longer
pub no_longer : (ys xs : List ℕ) → Climbs xs → Climbs ys → ((z : ℕ) → Contains xs z → Contains ys z)
    → length xs ≤ length ys
no_longer [] [] up_x up_y part = omega arith
no_longer [] (x ∷ xs) up_x up_y part = absurd (in_none x (part x (in_here x xs)))
no_longer (y ∷ ys) [] up_x up_y part = omega arith
no_longer (y ∷ ys) (x ∷ xs) up_x up_y part = elim (same_or_not x y) [
  | inl same ↦ omega (
    arith,
    no_longer ys xs (climbs_on x xs up_x) (climbs_on y ys up_y)
        (λ z h. past_head y ys z (part z (in_later x z xs h))
        (subst (λ (v : ℕ). v < z) same (head_below x xs up_x z h))),
  )
  | inr apart ↦ let far = head_past x y ys up_y (part x (in_here x xs)) apart in
      omega (
        arith,
        no_longer ys (x ∷ xs) up_x (climbs_on y ys up_y)
            (λ z h. past_head y ys z (part z h) (omega (arith, far, at_least_head x xs up_x z h))),
      )
]

-- and shorter, where it lacks an element
pub shorter : (ys xs : List ℕ) (p : ℕ) → Climbs xs → Climbs ys → ((z : ℕ) → Contains xs z → Contains ys z)
    → Contains ys p → ¬ (Contains xs p) → length xs < length ys
shorter [] xs p up_x up_y part there lacks = absurd (in_none p there)
shorter (y ∷ ys) [] p up_x up_y part there lacks = omega arith
shorter (y ∷ ys) (x ∷ xs) p up_x up_y part there lacks = elim (same_or_not x y) [
  | inl same ↦
      let past : Contains ys p =
      elim (in_cons y p ys there)
      [ inl e ↦ absurd (lacks (subst (Contains (x ∷ xs)) (same ∙ e) (in_here x xs))) | inr more ↦ more ] in
      omega (
        arith,
        shorter ys xs p (climbs_on x xs up_x) (climbs_on y ys up_y)
            (λ z h. past_head y ys z (part z (in_later x z xs h))
            (subst (λ (v : ℕ). v < z) same (head_below x xs up_x z h))) past (λ h. lacks (in_later x p xs h)),
      )
  | inr apart ↦ let far = head_past x y ys up_y (part x (in_here x xs)) apart in
      omega (
        arith,
        no_longer ys (x ∷ xs) up_x (climbs_on y ys up_y)
            (λ z h. past_head y ys z (part z h) (omega (arith, far, at_least_head x xs up_x z h))),
      )
]

-- with the same elements they are one
pub one_list : (xs ys : List ℕ) → Climbs xs → Climbs ys → ((z : ℕ) → Contains xs z → Contains ys z)
    → ((z : ℕ) → Contains ys z → Contains xs z) → xs ≡ ys
one_list [] [] up_x up_y part back = refl
one_list [] (y ∷ ys) up_x up_y part back = absurd (in_none y (back y (in_here y ys)))
one_list (x ∷ xs) [] up_x up_y part back = absurd (in_none x (part x (in_here x xs)))
one_list (x ∷ xs) (y ∷ ys) up_x up_y part back =
    let low = at_least_head y ys up_y x (part x (in_here x xs)) in
    let high = at_least_head x xs up_x y (back y (in_here y ys)) in
    let same : x ≡ y = omega (arith, low, high) in
    ap (λ (v : ℕ). v ∷ xs) same
    ∙ ap (λ (vs : List ℕ). y ∷ vs) (one_list xs ys (climbs_on x xs up_x) (climbs_on y ys up_y)
    (λ z h. past_head y ys z (part z (in_later x z xs h)) (subst (λ (v : ℕ). v < z) same (head_below x xs up_x z h)))
    (λ z h. past_head x xs z (back z (in_later y z ys h))
    (subst (λ (v : ℕ). v < z) (sym same) (head_below y ys up_y z h))))
