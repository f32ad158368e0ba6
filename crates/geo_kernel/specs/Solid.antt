-- Rational points inside an area.
use Rattle.std.specs.Prelude.{ℕ, pos, ◌-◌, ◌<◌, ◌≤◌, ◌+ℤ◌, ◌*ℤ◌, List, [], ◌∷◌, map, All}
use Rattle.geo_kernel.specs.declared.point.Point.{Point}
use Rattle.geo_kernel.specs.declared.spine.Spine.{Spine}
use Rattle.geo_kernel.specs.declared.spine.Spine.TheVariants.{Chain, Area}
use Rattle.geo_kernel.specs.Spine.{Segment, chain_segments, spine_segments, IsInside}

-- the point n times as far from the origin
abbrev pub stretched : ℕ → Point → Point
stretched n p = record { x = pos n *ℤ p.x; y = pos n *ℤ p.y }

-- n times the point at i/n of a segment
abbrev pub point_at : ℕ → ℕ → Segment → Point
point_at n i g =
    record { x = pos (n - i) *ℤ g.from.x +ℤ pos i *ℤ g.to.x; y = pos (n - i) *ℤ g.from.y +ℤ pos i *ℤ g.to.y }

-- the point p/n is inside the loops
abbrev pub IsInsideAt : ℕ → Point → List (List Point) → Type 0
IsInsideAt n p loops = IsInside p (map (map (stretched n)) loops)

-- no rational point of the segment is inside the loops
abbrev pub IsOutside : List (List Point) → Segment → Type 0
IsOutside loops g = (n i : ℕ) → 0 < n → i ≤ n → ¬ (IsInsideAt n (point_at n i g) loops)

-- a chain, or an area of one loop
abbrev pub IsSimple : Spine → Type 0
IsSimple (Chain ps) = Unit {0}
IsSimple (Area []) = ⊥
IsSimple (Area (loop ∷ [])) = Unit {0}
IsSimple (Area (loop ∷ more ∷ loops)) = ⊥

-- where t is an area, no rational point of the segments of s is inside it
abbrev pub StaysOutside : Spine → Spine → Type 0
StaysOutside s (Chain ps) = Unit {0}
StaysOutside s (Area loops) = All (IsOutside loops) (spine_segments s)

-- each rational point of the segment is inside the loops
abbrev pub LiesInside : List (List Point) → Segment → Type 0
LiesInside loops g = (n i : ℕ) → 0 < n → i ≤ n → IsInsideAt n (point_at n i g) loops

-- so is each rational point of the segments of a chain
abbrev pub StaysInside : List Point → List (List Point) → Type 0
StaysInside chain loops = All (LiesInside loops) (chain_segments chain)
