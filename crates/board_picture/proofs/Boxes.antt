-- The least box of points, one after another.
use Rattle.std.proofs.Common.{◌≡◌, ◌∙◌, ℕ, ◌+◌, ◌<◌, List, length, get_or, take, sym, ap}
use Rattle.std.specs.List.{fold}
use Rattle.std.proofs.lemmas.List.Sums.{fold_more}
use Rattle.geo_kernel.specs.declared.point.Point.{Point}
use Rattle.geo_kernel.specs.declared.point.Rect4.{Rect4}
use Rattle.board_picture.specs.Sheet.{grown}

-- one point more
pub grown_more : (b r : Rect4) (points : List Point) (i : ℕ) (d : Point) → i < length points
    → r ≡ fold grown b (take i points) → grown r (get_or points i d) ≡ fold grown b (take (i + 1) points)
grown_more b r points i d within is =
    ap (λ (q : Rect4). grown q (get_or points i d)) is ∙ sym (fold_more grown b points i d within)
