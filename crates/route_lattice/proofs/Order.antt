-- Consecutive whole numbers, their lines, and what is among them.
use Rattle.std.proofs.Common.{◌≡◌, ℕ, zero, suc, ℤ, pos, negsuc, ◌<◌, ◌≤◌, ◌+ℤ◌, ◌≤ℤ◌, ◌<ℤ◌, arith, refl, sym, ap, ◌∙◌}
use Rattle.std.proofs.Common.{subst, List, [], ◌∷◌, Bool, true, false, inl, inr}
use Rattle.std.specs.Prelude.{map, filter, cond, Contains, ◌⊎◌}
use Rattle.std.specs.Ordering.{int_cmp}
use Rattle.std.specs.Cmp.{int_cmp_is}
use Rattle.std.specs.declared.cmp.Ordering.TheVariants.{Less}
use Rattle.std.specs.List.{AllByRecursion}
use Rattle.std.specs.List.Sorted.{IsStrictlySortedBy}
use Rattle.std.proofs.lemmas.Int.{ints}
use Rattle.std.specs.Int.{int_gap}
use Rattle.route_lattice.specs.Lines.{up_from, between, is_grid_line}
use Rattle.route_lattice.specs.Spans.{line_of, IsSpan}
use Rattle.std.proofs.lemmas.List.Kept.{IsStrictlySortedBy-filter}
use Rattle.route_lattice.proofs.GridLines.{line_found, line_tested}
use Rattle.route_lattice.proofs.Sets.{first_or_rest, is_first, in_rest, none_in_empty, same_ascending}
use Rattle.route_lattice.proofs.Spans.{line_rises}

is_less : (x y : ℤ) → x <ℤ y → int_cmp x y ≡ Less
is_less x y h = sym (int_cmp_is x y Less h)

trans : (x y z : ℤ) → x <ℤ y → y <ℤ z → x <ℤ z
trans x y z h k = omega (arith, ints)

-- where f rises, its values at later numbers are above
later : (f : ℤ → ℤ) → ((k : ℤ) → f k <ℤ f (k +ℤ pos 1)) → (x z : ℤ) (n : ℕ) → f x <ℤ f z
    → AllByRecursion (λ y. int_cmp (f x) y ≡ Less) (map f (up_from z n))
later f r x z zero h = tt
later f r x z (suc n) h =
    (is_less (f x) (f z) h, later f r x (z +ℤ pos 1) n (trans (f x) (f z) (f (z +ℤ pos 1)) h (r z)))

pub rising_sorted : (f : ℤ → ℤ) → ((k : ℤ) → f k <ℤ f (k +ℤ pos 1)) → (z : ℤ) (n : ℕ)
    → IsStrictlySortedBy int_cmp (map f (up_from z n))
unfolding IsStrictlySortedBy
rising_sorted f r z zero = tt
rising_sorted f r z (suc n) = (later f r z (z +ℤ pos 1) n (r z), rising_sorted f r (z +ℤ pos 1) n)

-- the lines of consecutive multiples ascend, where the grid isn't below the unit
pub lines_sorted : (unit grid : ℕ) → 0 < unit → unit ≤ grid → (z : ℤ) (n : ℕ)
    → IsStrictlySortedBy int_cmp (map (line_of unit grid) (up_from z n))
lines_sorted unit grid hu hg z n = rising_sorted (line_of unit grid) (λ k. line_rises unit grid k hu hg) z n

-- which numbers are listed
pub up_from_has : (z : ℤ) (n : ℕ) (k : ℤ) → z ≤ℤ k → k <ℤ (z +ℤ pos n) → Contains (up_from z n) k
up_from_has z zero k h l = absurd (none z k h l)
  where
    none : (z k : ℤ) → z ≤ℤ k → k <ℤ (z +ℤ pos 0) → ⊥
    none z k h l = omega (arith, ints)
up_from_has z (suc n) k h l =
    elim (split z k h) [
      | inl e ↦ (zero, omega arith, e)
      | inr m ↦
          in_rest z k (up_from (z +ℤ pos 1) n) (up_from_has (z +ℤ pos 1) n k m (omega (arith, ints)))
    ]
  where
    split : (z k : ℤ) → z ≤ℤ k → (z ≡ k) ⊎ ((z +ℤ pos 1) ≤ℤ k)
    split z k h = grind (arith, ints)

pub up_from_only : (z : ℤ) (n : ℕ) (k : ℤ) → Contains (up_from z n) k → (z ≤ℤ k) × (k <ℤ (z +ℤ pos n))
up_from_only z zero k m = absurd (none_in_empty k m)
up_from_only z (suc n) k m =
    elim (first_or_rest z k (up_from (z +ℤ pos 1) n) m) [
      | inl e ↦ at z k e
      | inr r ↦
          on z k (up_from_only (z +ℤ pos 1) n k r)
    ]
  where
    at : (z k : ℤ) → z ≡ k → (z ≤ℤ k) × (k <ℤ (z +ℤ pos (suc n)))
    at z k e = (omega (arith, ints), omega (arith, ints))

    on : (z k : ℤ) → ((z +ℤ pos 1) ≤ℤ k) × (k <ℤ ((z +ℤ pos 1) +ℤ pos n)) → (z ≤ℤ k) × (k <ℤ (z +ℤ pos (suc n)))
    on z k p = (omega (arith, ints, p.0), omega (arith, ints, p.1))

pub gap_reaches : (a b k : ℤ) → a ≤ℤ k → k <ℤ b → k <ℤ (a +ℤ pos (int_gap a b))
gap_reaches (pos a) (pos b) k h l = omega (arith, ints)
gap_reaches (pos a) (negsuc b) k h l = omega (arith, ints)
gap_reaches (negsuc a) (pos b) k h l = omega (arith, ints)
gap_reaches (negsuc a) (negsuc b) k h l = omega (arith, ints)

pub gap_stops : (a b k : ℤ) → a ≤ℤ k → k <ℤ (a +ℤ pos (int_gap a b)) → k <ℤ b
gap_stops (pos a) (pos b) k h l = omega (arith, ints)
gap_stops (pos a) (negsuc b) k h l = omega (arith, ints)
gap_stops (negsuc a) (pos b) k h l = omega (arith, ints)
gap_stops (negsuc a) (negsuc b) k h l = omega (arith, ints)

pub between_has : (low high z : ℤ) → low <ℤ z → z <ℤ high → Contains (between low high) z
between_has low high z h l = let a : (low +ℤ pos 1) ≤ℤ z = omega (arith, ints) in
    up_from_has (low +ℤ pos 1) (int_gap (low +ℤ pos 1) high) z a (gap_reaches (low +ℤ pos 1) high z a l)

pub between_only : (low high z : ℤ) → Contains (between low high) z → (low <ℤ z) × (z <ℤ high)
between_only low high z m =
    let p = up_from_only (low +ℤ pos 1) (int_gap (low +ℤ pos 1) high) z m in
    (after low z p.0, gap_stops (low +ℤ pos 1) high z p.0 p.1)
  where
    after : (x y : ℤ) → (x +ℤ pos 1) ≤ℤ y → x <ℤ y
    after x y h = omega (arith, ints)

map_id : (xs : List ℤ) → map (λ x. x) xs ≡ xs
map_id [] = refl
map_id (x ∷ xs) = ap (λ zs. x ∷ zs) (map_id xs)

pub between_sorted : (low high : ℤ) → IsStrictlySortedBy int_cmp (between low high)
between_sorted low high =
    subst (λ zs. IsStrictlySortedBy int_cmp zs) (map_id (between low high))
    (rising_sorted (λ x. x) next (low +ℤ pos 1) (int_gap (low +ℤ pos 1) high))
  where
    next : (k : ℤ) → k <ℤ (k +ℤ pos 1)
    next k = omega (arith, ints)

-- what a filter and a map hold
there : (x y : ℤ) (ys : List ℤ) (b : Bool) → Contains ys y → Contains (cond b (x ∷ ys) ys) y
there x y ys true m = in_rest x y ys m
there x y ys false m = m

here : (p : ℤ → Bool) (x y : ℤ) (ys : List ℤ) → x ≡ y → p y ≡ true → Contains (cond (p x) (x ∷ ys) ys) y
here p x y ys e t = subst (λ (b : Bool). Contains (cond b (x ∷ ys) ys) y) (sym (ap p e ∙ t)) (zero, omega arith, e)

pub filter_has : (p : ℤ → Bool) (xs : List ℤ) (y : ℤ) → Contains xs y → p y ≡ true → Contains (filter p xs) y
filter_has p [] y m t = absurd (none_in_empty y m)
filter_has p (x ∷ xs) y m t =
    elim (first_or_rest x y xs m) [
      | inl e ↦ here p x y (filter p xs) e t
      | inr k ↦
          there x y (filter p xs) (p x) (filter_has p xs y k t)
    ]

only_at : (p : ℤ → Bool) (x : ℤ) (xs : List ℤ) (y : ℤ) (b : Bool) → p x ≡ b
    → Contains (cond b (x ∷ filter p xs) (filter p xs)) y → (Contains (filter p xs) y → Contains xs y × (p y ≡ true))
    → Contains (x ∷ xs) y × (p y ≡ true)
only_at p x xs y true e m f =
    elim (first_or_rest x y (filter p xs) m) [
      | inl q ↦ ((zero, omega arith, q), ap p (sym q) ∙ e)
      | inr k ↦
          (in_rest x y xs (f k).0, (f k).1)
    ]
only_at p x xs y false e m f = (in_rest x y xs (f m).0, (f m).1)

pub filter_only : (p : ℤ → Bool) (xs : List ℤ) (y : ℤ) → Contains (filter p xs) y → Contains xs y × (p y ≡ true)
filter_only p [] y m = absurd (none_in_empty y m)
filter_only p (x ∷ xs) y m = only_at p x xs y (p x) refl m (filter_only p xs y)

pub map_has : (f : ℤ → ℤ) (xs : List ℤ) (k : ℤ) → Contains xs k → Contains (map f xs) (f k)
map_has f [] k m = absurd (none_in_empty k m)
map_has f (x ∷ xs) k m =
    elim (first_or_rest x k xs m) [
      | inl e ↦ (zero, omega arith, ap f e)
      | inr r ↦
          in_rest (f x) (f k) (map f xs) (map_has f xs k r)
    ]

pub map_only : (f : ℤ → ℤ) (xs : List ℤ) (y : ℤ) → Contains (map f xs) y → (k : ℤ) × Contains xs k × (f k ≡ y)
map_only f [] y m = absurd (none_in_empty y m)
map_only f (x ∷ xs) y m =
    elim (first_or_rest (f x) y (map f xs) m) [
      | inl e ↦ (x, is_first x xs, e)
      | inr r ↦ let h = map_only f xs y r in
          (h.0, in_rest x h.0 xs h.1, h.2)
    ]

-- the numbers between two others that pass the test are the lines of the span
pub grid_lines_are : (unit grid : ℕ) (low high first last : ℤ) → 0 < unit → unit ≤ grid
    → IsSpan unit grid low high first last
    → filter (is_grid_line unit grid) (between low high) ≡ map (line_of unit grid) (up_from first (int_gap first last))
grid_lines_are unit grid low high first last hu hg s =
    same_ascending (filter (is_grid_line unit grid) (between low high))
    (map (line_of unit grid) (up_from first (int_gap first last)))
    (IsStrictlySortedBy-filter int_cmp (is_grid_line unit grid) (between low high) (between_sorted low high))
    (lines_sorted unit grid hu hg first (int_gap first last))
    (λ z m.
    let p = filter_only (is_grid_line unit grid) (between low high) z m in
    let q = between_only low high z p.0 in
    let l = line_found unit grid z p.1 in
    let w = s.within l.0 (subst (λ x. low <ℤ x) (sym l.1) q.0) (subst (λ x. x <ℤ high) (sym l.1) q.1) in
    subst (λ x. Contains (map (line_of unit grid) (up_from first (int_gap first last))) x) l.1
    (map_has (line_of unit grid) (up_from first (int_gap first last)) l.0
    (up_from_has first (int_gap first last) l.0 w.0 (gap_reaches first last l.0 w.0 w.1))))
    (λ z m.
    let p = map_only (line_of unit grid) (up_from first (int_gap first last)) z m in
    let q = up_from_only first (int_gap first last) p.0 p.1 in
    let w = s.lies p.0 q.0 (gap_stops first last p.0 q.0 q.1) in
    filter_has (is_grid_line unit grid) (between low high) z
    (between_has low high z (subst (λ x. low <ℤ x) p.2 w.0) (subst (λ x. x <ℤ high) p.2 w.1))
    (line_tested unit grid z hu (omega arith) (p.0, p.2)))
