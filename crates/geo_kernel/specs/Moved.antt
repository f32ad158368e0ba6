-- A spine moved by a vector.
use Rattle.std.specs.Prelude.{◌+ℤ◌, map}
use Rattle.geo_kernel.specs.declared.point.Point.{Point}
use Rattle.geo_kernel.specs.declared.spine.Spine.{Spine}
use Rattle.geo_kernel.specs.declared.spine.Spine.TheVariants.{Chain, Area}

-- the point p moved by the vector
abbrev pub moved : Point → Point → Point
moved by p = record { x = p.x +ℤ by.x; y = p.y +ℤ by.y }

-- the spine with each vertex moved
abbrev pub moved_spine : Point → Spine → Spine
moved_spine by (Chain ps) = Chain (map (moved by) ps)
moved_spine by (Area loops) = Area (map (map (moved by)) loops)
