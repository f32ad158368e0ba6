-- Boxes with their sides parallel to the axes.
use Rattle.std.specs.Prelude.{ℕ, ℤ, pos, ◌-ℤ◌, ◌*ℤ◌, ◌≤ℤ◌, ◌≡◌, ◌⊎◌, List, All, Any}
use Rattle.geo_kernel.specs.declared.point.Point.{Point}
use Rattle.geo_kernel.specs.declared.point.Rect4.{Rect4}
use Rattle.geo_kernel.specs.declared.spine.Spine.{Spine}
use Rattle.geo_kernel.specs.Spine.{vertices}

-- the point is in the box, sides included
pub record IsIn (r : Rect4) (p : Point) : Type 0 where
  pub left : r.x0 ≤ℤ p.x
  pub right : p.x ≤ℤ r.x1
  pub bottom : r.y0 ≤ℤ p.y
  pub top : p.y ≤ℤ r.y1

-- each vertex is in the box
abbrev pub IsInBox : Rect4 → Spine → Type 0
IsInBox r s = All (IsIn r) (vertices s)

-- the box holds all points, and each side meets one of them
pub record IsLeastBox (ps : List Point) (r : Rect4) : Type 0 where
  pub within : All (IsIn r) ps
  pub left : Any (λ p. p.x ≡ r.x0) ps
  pub right : Any (λ p. p.x ≡ r.x1) ps
  pub bottom : Any (λ p. p.y ≡ r.y0) ps
  pub top : Any (λ p. p.y ≡ r.y1) ps

-- the least box of a spine
abbrev pub IsBoxOf : Spine → Rect4 → Type 0
IsBoxOf s r = IsLeastBox (vertices s) r

-- the way up from hi to lo is at least half of k
abbrev pub IsGap : ℤ → ℤ → ℕ → Type 0
IsGap hi lo k = pos k ≤ℤ (pos 2 *ℤ (lo -ℤ hi))

-- one box is beyond the other by at least half of k, along x or along y
abbrev pub IsParted : Rect4 → Rect4 → ℕ → Type 0
IsParted a b k = (IsGap a.x1 b.x0 k ⊎ IsGap b.x1 a.x0 k) ⊎ (IsGap a.y1 b.y0 k ⊎ IsGap b.y1 a.y0 k)
