-- How many lines lie between two numbers.
use Rattle.std.proofs.Common.{◌≡◌, ℕ, ℤ, pos, negsuc, ◌≤◌, ◌^◌, ◌+ℤ◌, List, [], ◌∷◌, length, Bool, true, false}
use Rattle.std.proofs.Common.{cond, unsigned_abs, arith}
use Rattle.std.specs.Prelude.{◌||◌, filter, IfOk, Result, Ok, Err}
use Rattle.std.specs.Int.{int_gap}
use Rattle.std.specs.List.{list_any}
use Rattle.std.specs.Ordering.{int_eq}
use Rattle.std.proofs.lemmas.Int.{ints}
use Rattle.geo_kernel.specs.declared.point.Rect4.{Rect4}
use Rattle.route_lattice.specs.Gather.{high_side, low_side}
use Rattle.route_lattice.specs.Lines.{between, is_grid_line, line_list}
use Rattle.route_lattice.specs.Parts.{IsBoxWithin}
use Rattle.route_lattice.proofs.Counts.{up_from_length}

-- what a test keeps isn't longer
filter_few : (p : ℤ → Bool) (xs : List ℤ) → length (filter p xs) ≤ length xs
filter_few p [] = omega arith
filter_few p (x ∷ xs) = by (p x) (filter_few p xs)
  where
    by : (b : Bool) → length (filter p xs) ≤ length xs
        → length (cond b (x ∷ filter p xs) (filter p xs)) ≤ length (x ∷ xs)
    by true h = omega (arith, h)
    by false h = omega (arith, h)

-- how many whole numbers there are
gap_near : (a b : ℤ) → unsigned_abs a ≤ 2 ^ 30 → unsigned_abs b ≤ 2 ^ 29 → int_gap a b ≤ 2 ^ 31
gap_near (pos a) (pos b) h k = omega (arith, ints)
gap_near (pos a) (negsuc b) h k = omega (arith, ints)
gap_near (negsuc a) (pos b) h k = omega (arith, ints)
gap_near (negsuc a) (negsuc b) h k = omega (arith, ints)

near_next : (a : ℤ) → unsigned_abs a ≤ 2 ^ 29 → unsigned_abs (a +ℤ pos 1) ≤ 2 ^ 30
near_next (pos a) h = omega (arith, ints)
near_next (negsuc a) h = omega (arith, ints)

few_between : (unit grid : ℕ) (low high : ℤ) (anchors : List ℤ) → unsigned_abs low ≤ 2 ^ 29 → unsigned_abs high ≤ 2 ^ 29
    → length (line_list unit grid low high anchors) ≤ 2 ^ 31
few_between unit grid low high anchors h k =
    let test : ℤ → Bool = λ x. is_grid_line unit grid x || list_any (λ a. int_eq a x) anchors in
    let kept = filter_few test (between low high) in
    let all = up_from_length (low +ℤ pos 1) (int_gap (low +ℤ pos 1) high) in
    let gap = gap_near (low +ℤ pos 1) high (near_next low h) k in
    omega (arith, kept, all, gap)

few_in : (unit grid : ℕ) (upright : Bool) (r : Rect4) (anchors : List ℤ) → IsBoxWithin r
    → length (line_list unit grid (low_side upright r) (high_side upright r) anchors) ≤ 2 ^ 31
few_in unit grid true r anchors b = few_between unit grid r.y0 r.y1 anchors b.bottom b.top
few_in unit grid false r anchors b = few_between unit grid r.x0 r.x1 anchors b.left b.right

-- so a number of lines is small
pub few_lines : {E : Type 0} (unit grid : ℕ) (upright : Bool) (r : Rect4) (anchors : List ℤ) (o : Result ℕ E)
    → IsBoxWithin r
    → IfOk o (λ n. n ≡ length (line_list unit grid (low_side upright r) (high_side upright r) anchors))
    → IfOk o (λ n. n ≤ 2 ^ 31)
few_lines unit grid upright r anchors (Ok n) b e = let f = few_in unit grid upright r anchors b in omega (arith, e, f)
few_lines unit grid upright r anchors (Err x) b e = tt
