-- A list of ascending lines, split at a number.
use Rattle.std.proofs.Common.{◌≡◌, ℕ, ℤ, ◌<◌, ◌≤◌, ◌≤ℤ◌, ◌<ℤ◌, List, length, get_or, true, false, true≢false, ◌⊎◌, inl}
use Rattle.std.proofs.Common.{inr, ⊎_elim, Ordering, refl, sym, ap, ◌∙◌, subst, arith}
use Prim.Native.Nat.{zero, suc}
use Rattle.std.specs.Prelude.{int_lt, int_le}
use Rattle.std.specs.Ordering.{int_cmp, MatchOrdering}
use Rattle.std.specs.Cmp.{int_ranks}
use Rattle.std.specs.declared.cmp.Ordering.TheVariants.{Less}
use Rattle.std.specs.List.Sorted.{IsStrictlySortedBy, IsPartitionedBy}
use Rattle.std.proofs.lemmas.Int.{ints}
use Rattle.std.proofs.lemmas.Map.Keys.{Less-from_sorted}
use borrow.Author.Differences.{true_is_lt, false_is_lt, true_is_le, false_is_le}
use Rattle.route_lattice.proofs.Covering.{le_or_lt}

less : (x y : ℤ) → int_cmp x y ≡ Less → x <ℤ y
less x y e = subst (λ (o : Ordering). MatchOrdering o (x <ℤ y) (x ≡ y) (y <ℤ x)) e (int_ranks x y)

same_or_more : (i k : ℕ) → i ≤ k → (i ≡ k) ⊎ (i < k)
same_or_more zero zero h = inl refl
same_or_more zero (suc k) h = inr (omega arith)
same_or_more (suc i) zero h = absurd (omega arith)
same_or_more (suc i) (suc k) h = ⊎_elim (λ e. inl (ap suc e)) (λ l. inr (omega arith)) (same_or_more i k (omega arith))

-- lines ascend
pub lines_rise : (zs : List ℤ) (i k : ℕ) (d : ℤ) → IsStrictlySortedBy int_cmp zs → i ≤ k → k < length zs
    → get_or zs i d ≤ℤ get_or zs k d
lines_rise zs i k d s h l =
    ⊎_elim (λ e. by (get_or zs i d) (get_or zs k d) (ap (λ n. get_or zs n d) e))
    (λ m. let t = less (get_or zs i d) (get_or zs k d) (Less-from_sorted int_cmp zs i k d s m l) in omega (arith, ints))
    (same_or_more i k h)
  where
    by : (x y : ℤ) → x ≡ y → x ≤ℤ y
    by x y e = omega (arith, ints)

-- tests of whole numbers
lt_told : (x y : ℤ) → int_lt x y ≡ true → x <ℤ y
lt_told x y e = by (le_or_lt y x)
  where
    by : (y ≤ℤ x) ⊎ (x <ℤ y) → x <ℤ y
    by (inl h) = absurd (true≢false (sym e ∙ sym (false_is_lt x y (omega (arith, ints)))))
    by (inr h) = h

lt_tells : (x y : ℤ) → x <ℤ y → int_lt x y ≡ true
lt_tells x y h = sym (true_is_lt x y (omega (arith, ints)))

le_told : (x y : ℤ) → int_le x y ≡ true → x ≤ℤ y
le_told x y e = by (le_or_lt x y)
  where
    by : (x ≤ℤ y) ⊎ (y <ℤ x) → x ≤ℤ y
    by (inl h) = h
    by (inr h) = absurd (true≢false (sym e ∙ sym (false_is_le x y (omega (arith, ints)))))

le_tells : (x y : ℤ) → x ≤ℤ y → int_le x y ≡ true
le_tells x y h = sym (true_is_le x y (omega (arith, ints)))

-- lines below a number come first, and so do those up to a number
pub parted_below : (zs : List ℤ) (low : ℤ) → IsStrictlySortedBy int_cmp zs → IsPartitionedBy (λ z. int_lt z low) zs
parted_below zs low s i j d h l e =
    lt_tells (get_or zs i d) low
    (by (get_or zs i d) (get_or zs j d) low (lines_rise zs i j d s h l) (lt_told (get_or zs j d) low e))
  where
    by : (x y z : ℤ) → x ≤ℤ y → y <ℤ z → x <ℤ z
    by x y z h k = omega (arith, ints)

pub parted_up_to : (zs : List ℤ) (high : ℤ) → IsStrictlySortedBy int_cmp zs → IsPartitionedBy (λ z. int_le z high) zs
parted_up_to zs high s i j d h l e =
    le_tells (get_or zs i d) high
    (by (get_or zs i d) (get_or zs j d) high (lines_rise zs i j d s h l) (le_told (get_or zs j d) high e))
  where
    by : (x y z : ℤ) → x ≤ℤ y → y ≤ℤ z → x ≤ℤ z
    by x y z h k = omega (arith, ints)

pub fails_le : (x y : ℤ) → int_le x y ≡ false → y <ℤ x
fails_le x y e = by (le_or_lt x y)
  where
    by : (x ≤ℤ y) ⊎ (y <ℤ x) → y <ℤ x
    by (inl h) = absurd (true≢false (sym (le_tells x y h) ∙ e))
    by (inr h) = h

pub passes_lt : (x y : ℤ) → int_lt x y ≡ true → x <ℤ y
passes_lt x y e = lt_told x y e

pub passes_le : (x y : ℤ) → int_le x y ≡ true → x ≤ℤ y
passes_le x y e = le_told x y e

pub fails_lt : (x y : ℤ) → int_lt x y ≡ false → y ≤ℤ x
fails_lt x y e = by (le_or_lt y x)
  where
    by : (y ≤ℤ x) ⊎ (x <ℤ y) → y ≤ℤ x
    by (inl h) = h
    by (inr h) = absurd (true≢false (sym (lt_tells x y h) ∙ e))
