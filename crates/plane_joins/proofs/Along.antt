-- Candidates along lines: one after another and at once, and how many there are.
use Rattle.std.proofs.Common.{◌≡◌, ℕ, ℤ, suc, ◌+◌, ◌*◌, ◌-◌, arith, refl, ap, ap₂, ◌∙◌}
use Rattle.std.proofs.Common.{List, [], ◌∷◌, length, flat_map}
use Rattle.std.specs.Prelude.{map, Bool, true, false}
use Rattle.std.proofs.lemmas.List.{length-append}
use Rattle.geo_kernel.specs.declared.point.Point.{Point}
use Rattle.geo_kernel.specs.declared.point.Rect4.{Rect4}
use Rattle.pcb_model.specs.declared.design.Design.{Design}
use Rattle.route_lattice.specs.Gather.{low_side, high_side}
use Rattle.route_lattice.specs.Lines.{line_list}
use Rattle.plane_joins.specs.declared.area.PlaneArea.{PlaneArea}
use Rattle.plane_joins.specs.declared.limits.TheConstants.{MESH}
use Rattle.plane_joins.specs.Planes.{crossing, steps_from, steps, along, between_lines, candidates, lines_in}

-- ---- how many
length-steps_from : (p : Point) (ps : List Point) → length (steps_from p ps) ≡ length ps
length-steps_from p [] = refl
length-steps_from p (q ∷ qs) = let e = length-steps_from q qs in omega (arith, e)

length-steps : (ps : List Point) → length (steps ps) ≡ length ps - 1
length-steps [] = refl
length-steps (p ∷ ps) = let e = length-steps_from p ps in omega (arith, e)

mapped : (f : ℤ → Point) (xs : List ℤ) → length (map f xs) ≡ length xs
mapped f [] = refl
mapped f (x ∷ xs) = let e = mapped f xs in omega (arith, e)

length-along : (upright : Bool) (others : List ℤ) (line : ℤ) → length (along upright others line) ≡ length others - 1
length-along upright others line =
    length-steps (map (crossing upright line) others) ∙ ap (λ n. n - 1) (mapped (crossing upright line) others)

length-all : (upright : Bool) (others lines : List ℤ)
    → length (flat_map (along upright others) lines) ≡ length lines * (length others - 1)
length-all upright others [] = omega arith
length-all upright others (z ∷ zs) =
    length-append (along upright others z) (flat_map (along upright others) zs)
    ∙ ap₂ (λ a b. a + b) (length-along upright others z) (length-all upright others zs)
    ∙ by (length others - 1) (length zs)
  where
    by : (a n : ℕ) → a + n * a ≡ (suc n) * a
    by a n = omega arith

pub length-between : (xs ys : List ℤ) → length (between_lines xs ys)
    ≡ length ys * (length xs - 1) + length xs * (length ys - 1)
unfolding between_lines
length-between xs ys =
    length-append (flat_map (along false xs) ys) (flat_map (along true ys) xs)
    ∙ ap₂ (λ a b. a + b) (length-all false xs ys) (length-all true ys xs)

-- ---- of a plane
pub same_lines : (u v : ℕ) (r q : Rect4) (xs ys : List ℤ) (upright : Bool) → u ≡ v → r ≡ q → xs ≡ ys
    → line_list u MESH (low_side upright r) (high_side upright r) xs
    ≡ line_list v MESH (low_side upright q) (high_side upright q) ys
same_lines u v r q xs ys upright e f g =
    ap (λ (n : ℕ). line_list n MESH (low_side upright r) (high_side upright r) xs) e
    ∙ ap (λ (b : Rect4). line_list v MESH (low_side upright b) (high_side upright b) xs) f
    ∙ ap (λ (zs : List ℤ). line_list v MESH (low_side upright q) (high_side upright q) zs) g

pub length-candidates : (d : Design) (p : PlaneArea) → length (candidates d p)
    ≡ length (lines_in d p true) * (length (lines_in d p false) - 1)
    + length (lines_in d p false) * (length (lines_in d p true) - 1)
unfolding candidates
length-candidates d p = length-between (lines_in d p false) (lines_in d p true)
