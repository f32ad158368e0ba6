-- What the private functions and structs of `close`, `moved`, `path` and `interior` give.
use Rattle.std.specs.Prelude.{ℕ, ◌^◌, ◌%◌, ◌≡◌, List, Any, count_by}
use Rattle.geo_kernel.specs.declared.point.Point.{Point}
use Rattle.geo_kernel.specs.declared.spine.Spine.{Spine}
use Rattle.geo_kernel.specs.declared.spine.Spine.TheVariants.{Chain, Area}
use Rattle.geo_kernel.specs.declared.close.Closeness.{Closeness}
use Rattle.geo_kernel.specs.declared.close.Closeness.TheVariants.{Nearer, Touching}
use Rattle.geo_kernel.specs.Plane.{IsWithin}
use Rattle.geo_kernel.specs.Spine.{Segment, Keeps, Touches, is_right, spine_segments, IsInside, IsSpineWithin}
use Rattle.geo_kernel.specs.Moved.{moved, moved_spine}
use Rattle.geo_kernel.specs.Props.{spine_within_prop}

-- two segments are close where they don't keep k, or where they touch by it
abbrev pub IsClose : Closeness → ℕ → Segment → Segment → Type 0
IsClose Nearer k g h = ¬ (Keeps k g h)
IsClose Touching k g h = Touches k g h

-- the segment is close to some segment of t
abbrev pub IsCloseTo : Closeness → ℕ → Spine → Segment → Type 0
IsCloseTo how k t g = Any (IsClose how k g) (spine_segments t)

-- the segment with both ends moved
abbrev pub moved_segment : Point → Segment → Segment
moved_segment by g = record { from = moved by g.from; to = moved by g.to }

-- the moved segment is close to some segment of t
abbrev pub IsMovedClose : Closeness → ℕ → Spine → Point → Segment → Type 0
IsMovedClose how k t by g = IsCloseTo how k t (moved_segment by g)

-- the ray from p meets an odd number of the moved segments
abbrev pub IsMovedOdd : Point → Point → List Segment → Type 0
IsMovedOdd by p gs = count_by (λ g. is_right p (moved_segment by g)) gs % 2 ≡ 1

-- the point stays within the bounds where it is moved
abbrev pub IsMovable : Point → Point → Type 0
IsMovable by p = IsWithin (2 ^ 29) p × IsWithin (2 ^ 29) (moved by p)

-- the moved spine is within the bounds; it is proved in at most one way
abbrev pub IsMovedWithin : Point → Spine → Type 0
IsMovedWithin by s = IsSpineWithin (2 ^ 29) (moved_spine by s)

pub moved_within_prop : (by : Point) (s : Spine) → IsProp (IsMovedWithin by s)
moved_within_prop by s = spine_within_prop (2 ^ 29) (moved_spine by s)

-- the point is inside the spine, if that is an area
abbrev pub IsInsideSpine : Point → Spine → Type 0
IsInsideSpine p (Chain ps) = ⊥
IsInsideSpine p (Area loops) = IsInside p loops
