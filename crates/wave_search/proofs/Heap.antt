-- What a push and a pop of the heap leave.
use Rattle.std.proofs.Common.{◌≡◌, ℕ, ◌<◌, ◌≤◌, List, [], ◌∷◌, length, map, get_or, false, sym, refl, ap, subst, inl}
use Rattle.std.proofs.Common.{inr, arith}
use Rattle.std.specs.Prelude.{Contains, IsPermutation}
use Prim.Native.Nat.{zero, suc}
use Rattle.std.specs.declared.cmp.Ordering.{Ordering}
use Rattle.std.specs.Ordering.{nat_cmp, ordering_then, is_lt}
use Rattle.std.specs.BinaryHeap.{IsUpperBound}
use Rattle.std.proofs.lemmas.List.Sorted.{Contains-permutation, IsPermutation-sym, length_permutation}
use Rattle.std.proofs.lemmas.List.{length-map}
use Rattle.std.proofs.lemmas.Bool.Decides.{nat_tests}
use Rattle.std.specs.declared.cmp.Reverse.{Reverse}
use Rattle.wave_search.specs.declared.front.Entry.{Entry}
use Rattle.wave_search.specs.declared.bins.Waiting.{Waiting}
use Rattle.wave_search.specs.inner.Waiting.{Waits, IsAdded, IsTaken}
use Rattle.wave_search.specs.inner.Order.{inner, later_cmp}

-- an item of the heap waits
pub waits_at : (rs : List (Reverse Waiting)) (r : Reverse Waiting) (k : ℕ) → k < length rs → get_or rs k r ≡ r
    → Waits (map inner rs) (inner r)
waits_at [] r k h e = absurd (omega arith)
waits_at (x ∷ xs) r zero h e = inl (ap inner e)
waits_at (x ∷ xs) r (suc k) h e = inr (waits_at xs r k (omega arith) e)

in_waits : (rs : List (Reverse Waiting)) (e : Entry) → Waits (map inner rs) e → (r : Reverse Waiting) × Contains rs r
    × (inner r ≡ e)
in_waits [] e w = absurd w
in_waits (x ∷ xs) e w = elim w [
  | inl p ↦ (x, (0, omega arith, refl), p)
  | inr q ↦ let u = in_waits xs e q in (u.0, (suc u.1.0, omega (arith, u.1.1), u.1.2), u.2)
]

pub perm_waits : (xs ys : List (Reverse Waiting)) → IsPermutation xs ys → (e : Entry) → Waits (map inner xs) e
    → Waits (map inner ys) e
perm_waits xs ys p e w = let u = in_waits xs e w in let c = Contains-permutation xs ys u.0 p u.1 in
    subst (Waits (map inner ys)) u.2 (waits_at ys u.0 c.0 c.1 c.2)

not_below : (x y : ℕ) (o : Ordering) → is_lt (ordering_then (nat_cmp x y) o) ≡ false → y ≤ x
not_below x y o h = grind (arith, nat_tests)

upper : (x : Reverse Waiting) (ys : List (Reverse Waiting)) → IsUpperBound later_cmp x ys → (e : Entry)
    → Waits (map inner ys) e → x.0.key ≤ e.key
upper x [] a e w = absurd w
upper x (y ∷ ys) a e w = elim w [
  | inl p ↦ omega (
    arith,
    not_below y.0.key x.0.key
        (ordering_then (nat_cmp y.0.order x.0.order) (nat_cmp y.0.node x.0.node)) a.0,
    ap (λ (z : Entry). z.key) p,
  )
  | inr q ↦ upper x ys a.1 e q
]

pub pushed : (old new : List (Reverse Waiting)) (r : Reverse Waiting) → IsPermutation (r ∷ old) new
    → IsAdded (map inner old) (inner r) (map inner new)
pushed old new r p = record {
  here = perm_waits (r ∷ old) new p (inner r) (inl refl);
  kept = λ x w. perm_waits (r ∷ old) new p x (inr w);
  only = λ x w. elim (perm_waits new (r ∷ old) (IsPermutation-sym _ _ p) x w) [ inl q ↦ inr (sym q) | inr q ↦ inl q ];
  len = omega (arith, length_permutation _ _ p, length-map new inner, length-map old inner);
}

pub popped : (old new : List (Reverse Waiting)) (r : Reverse Waiting) → IsPermutation old (r ∷ new)
    → IsUpperBound later_cmp r new → IsTaken (map inner old) (inner r) (map inner new)
popped old new r p a = record {
  there = perm_waits (r ∷ new) old (IsPermutation-sym _ _ p) (inner r) (inl refl);
  least = λ y w. elim (perm_waits old (r ∷ new) p y w) [
    | inl q ↦ omega
        (arith, ap (λ (z : Entry). z.key) q)
    | inr q ↦ upper r new a y q
  ];
  kept = λ y w. elim (perm_waits old (r ∷ new) p y w) [ inl q ↦ inr (sym q) | inr q ↦ inl q ];
  only = λ y w. perm_waits (r ∷ new) old (IsPermutation-sym _ _ p) y (inr w);
  len = omega (arith, length_permutation _ _ p, length-map new inner, length-map old inner);
}
