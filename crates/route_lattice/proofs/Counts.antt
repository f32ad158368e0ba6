-- Lists of lines, and how many lines there are.
use Rattle.std.proofs.Common.{◌≡◌, ℕ, zero, suc, ℤ, pos, negsuc, ◌≤◌, ◌+◌, ◌+ℤ◌, arith, refl, ap, ◌∙◌, List, [], ◌∷◌}
use Rattle.std.proofs.Common.{◌++◌, length, Bool, true, false}
use Rattle.std.specs.Prelude.{map, filter, not, ◌&&◌, ◌||◌, cond, unsigned_abs, ◌^◌}
use Rattle.std.proofs.lemmas.Int.{ints}
use Rattle.std.specs.Int.{int_gap}
use Rattle.route_lattice.specs.Lines.{up_from}
use Rattle.route_lattice.specs.Spans.{line_of}

-- one number more
pub up_from_more : (z : ℤ) (n : ℕ) → up_from z (suc n) ≡ up_from z n ++ (z +ℤ pos n) ∷ []
up_from_more z zero = ap (λ w. w ∷ []) (first z)
  where
    first : (z : ℤ) → z ≡ z +ℤ pos 0
    first z = omega (arith, ints)
up_from_more z (suc n) =
    ap (λ zs. z ∷ zs) (up_from_more (z +ℤ pos 1) n ∙ ap (λ w. up_from (z +ℤ pos 1) n ++ w ∷ []) (next z))
  where
    next : (z : ℤ) → (z +ℤ pos 1) +ℤ pos n ≡ z +ℤ pos (suc n)
    next z = omega (arith, ints)

map_more : (f : ℤ → ℤ) (xs : List ℤ) (y : ℤ) → map f (xs ++ y ∷ []) ≡ map f xs ++ f y ∷ []
map_more f [] y = refl
map_more f (x ∷ xs) y = ap (λ zs. f x ∷ zs) (map_more f xs y)

one : (n : ℕ) → n + 1 ≡ suc n
one n = omega arith

pub gap_small : (a b : ℤ) → unsigned_abs a ≤ 2 ^ 32 → unsigned_abs b ≤ 2 ^ 32 → int_gap a b ≤ 2 ^ 33
gap_small (pos a) (pos b) h k = omega (arith, ints)
gap_small (pos a) (negsuc b) h k = omega (arith, ints)
gap_small (negsuc a) (pos b) h k = omega (arith, ints)
gap_small (negsuc a) (negsuc b) h k = omega (arith, ints)

pub lines_more : (unit grid : ℕ) (first : ℤ) (n : ℕ) → map (line_of unit grid) (up_from first (n + 1))
    ≡ map (line_of unit grid) (up_from first n) ++ line_of unit grid (first +ℤ pos n) ∷ []
lines_more unit grid first n =
    ap (λ m. map (line_of unit grid) (up_from first m)) (one n) ∙ ap (map (line_of unit grid)) (up_from_more first n)
    ∙ map_more (line_of unit grid) (up_from first n) (first +ℤ pos n)

pub up_from_length : (z : ℤ) (n : ℕ) → length (up_from z n) ≡ n
up_from_length z zero = refl
up_from_length z (suc n) = omega (arith, up_from_length (z +ℤ pos 1) n)

pub map_length : (f : ℤ → ℤ) (xs : List ℤ) → length (map f xs) ≡ length xs
map_length f [] = refl
map_length f (x ∷ xs) = omega (arith, map_length f xs)

-- what passes one of two tests is what passes the first, and what passes the second alone
pub either_length : (p q : ℤ → Bool) (xs : List ℤ) → length (filter (λ x. p x || q x) xs)
    ≡ length (filter p xs) + length (filter (λ x. q x && not (p x)) xs)
either_length p q [] = refl
either_length p q (x ∷ xs) = at (p x) (q x) (either_length p q xs)
  where
    at : (a b : Bool) → length (filter (λ x. p x || q x) xs)
        ≡ length (filter p xs) + length (filter (λ x. q x && not (p x)) xs)
        → length (cond (a || b) (x ∷ filter (λ x. p x || q x) xs) (filter (λ x. p x || q x) xs))
        ≡ length (cond a (x ∷ filter p xs) (filter p xs)) + length
        (cond (b && not a) (x ∷ filter (λ x. q x && not (p x)) xs) (filter (λ x. q x && not (p x)) xs))
    at true true h = omega (arith, h)
    at true false h = omega (arith, h)
    at false true h = omega (arith, h)
    at false false h = h
