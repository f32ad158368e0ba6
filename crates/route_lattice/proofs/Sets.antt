-- Ascending lists of whole numbers.
use Rattle.std.proofs.Common.{◌≡◌, zero, suc, ℤ, ◌<ℤ◌, arith, refl, sym, ap₂, ◌∙◌, subst, List, [], ◌∷◌, true, inl, inr}
use Rattle.std.proofs.Common.{Ordering}
use Rattle.std.specs.Prelude.{◌⊎◌, Contains}
use Rattle.std.specs.Ordering.{int_cmp, int_eq, MatchOrdering}
use Rattle.std.specs.Cmp.{int_ranks}
use Rattle.std.specs.declared.cmp.Ordering.TheVariants.{Less}
use Rattle.std.specs.List.{AllByRecursion, dedup}
use Rattle.std.specs.List.Sorted.{IsStrictlySortedBy, IsSorted, IsPermutation}
use Rattle.std.proofs.lemmas.Int.{ints}
use Rattle.std.proofs.lemmas.Cmp.{int_cmp_total, int_eq_equiv}
use Rattle.std.proofs.lemmas.Bool.Decides.{Decides-int_eq}
use Rattle.std.proofs.Common.{rules}
use Rattle.std.proofs.lemmas.List.Sorted.{Contains-permutation, IsPermutation-sym}
use Rattle.std.proofs.lemmas.List.Kept.{IsStrictlySortedBy-dedup, Contains-from_dedup, Contains-dedup}
use Rattle.route_lattice.specs.Spans.{IsAscending}

-- an element of x and xs is x or one of xs, and the other way round
pub first_or_rest : (x y : ℤ) (xs : List ℤ) → Contains (x ∷ xs) y → (x ≡ y) ⊎ Contains xs y
first_or_rest x y xs (zero, h, e) = inl e
first_or_rest x y xs (suc k, h, e) = inr (k, omega arith, e)

pub is_first : (x : ℤ) (xs : List ℤ) → Contains (x ∷ xs) x
is_first x xs = (zero, omega arith, refl)

pub in_rest : (x y : ℤ) (xs : List ℤ) → Contains xs y → Contains (x ∷ xs) y
in_rest x y xs (k, h, e) = (suc k, omega arith, e)

pub none_in_empty : (y : ℤ) → Contains [] y → ⊥
none_in_empty y (k, h, e) = omega arith

less : (x y : ℤ) → int_cmp x y ≡ Less → x <ℤ y
less x y e = subst (λ (o : Ordering). MatchOrdering o (x <ℤ y) (x ≡ y) (y <ℤ x)) e (int_ranks x y)

-- all of xs are above x
pub all_above : (x y : ℤ) (xs : List ℤ) → AllByRecursion (λ z. int_cmp x z ≡ Less) xs → Contains xs y → x <ℤ y
all_above x y [] a m = absurd (none_in_empty y m)
all_above x y (z ∷ zs) a m =
    elim (first_or_rest z y zs m) [ inl e ↦ subst (λ w. x <ℤ w) e (less x z a.0) | inr k ↦ all_above x y zs a.1 k ]

clash : (x y : ℤ) → x <ℤ y → y <ℤ x → ⊥
clash x y h k = omega (arith, ints)

irrefl : (x : ℤ) → x <ℤ x → ⊥
irrefl x h = omega (arith, ints)

-- ascending lists with the same elements are one
pub same_ascending : (xs ys : List ℤ) → IsStrictlySortedBy int_cmp xs → IsStrictlySortedBy int_cmp ys
    → ((z : ℤ) → Contains xs z → Contains ys z) → ((z : ℤ) → Contains ys z → Contains xs z) → xs ≡ ys
unfolding IsStrictlySortedBy
same_ascending [] [] s t f g = refl
same_ascending [] (y ∷ ys) s t f g = absurd (none_in_empty y (g y (is_first y ys)))
same_ascending (x ∷ xs) [] s t f g = absurd (none_in_empty x (f x (is_first x xs)))
same_ascending (x ∷ xs) (y ∷ ys) s t f g = ap₂ (λ z zs. z ∷ zs) e (same_ascending xs ys s.1 t.1 down up)
  where
    e : x ≡ y
    e = elim (first_or_rest y x ys (f x (is_first x xs))) [
      | inl p ↦ sym p
      | inr m ↦ elim (first_or_rest x y xs (g y (is_first y ys))) [
        | inl p ↦ p
        | inr n ↦
            absurd (clash y x (all_above y x ys t.0 m) (all_above x y xs s.0 n))
      ]
    ]

    down : (z : ℤ) → Contains xs z → Contains ys z
    down z m = elim (first_or_rest y z ys (f z (in_rest x z xs m)))
        [ inl p ↦ absurd (irrefl x (subst (λ w. x <ℤ w) (sym (e ∙ p)) (all_above x z xs s.0 m))) | inr k ↦ k ]

    up : (z : ℤ) → Contains ys z → Contains xs z
    up z m = elim (first_or_rest x z xs (g z (in_rest y z ys m)))
        [ inl p ↦ absurd (irrefl y (subst (λ w. y <ℤ w) (sym p ∙ e) (all_above y z ys t.0 m))) | inr k ↦ k ]

pub int_eq_exact : (x y : ℤ) → int_eq x y ≡ true → x ≡ y
int_eq_exact x y h = search (rules, Decides-int_eq)

pub int_eq_same : (x y : ℤ) → x ≡ y → int_eq x y ≡ true
int_eq_same x y h = search (rules, Decides-int_eq)

-- a sort and a dedup
pub ascending_is : (xs ms ys : List ℤ) → IsPermutation xs ms → IsSorted int_cmp ms → ys ≡ dedup int_eq ms
    → IsAscending xs ys
ascending_is xs ms ys p s e = subst (λ zs. IsAscending xs zs) (sym e) (record {
  ascends = IsStrictlySortedBy-dedup int_cmp_total (λ x y. refl) ms s;
  sound = λ x m. Contains-permutation ms xs x (IsPermutation-sym xs ms p) (Contains-from_dedup int_eq ms x m);
  complete = λ x m. Contains-dedup int_eq_equiv int_eq_exact ms x (Contains-permutation xs ms x p m);
})
