-- The tiles of a board and of its snapshots.
use Rattle.std.specs.Prelude.{ℕ, IfSome, slice_get}
use Rattle.geo_kernel.specs.declared.point.Rect4.{Rect4}
use Rattle.geo_kernel.specs.declared.spine.Spine.TheVariants.{Area}
use Rattle.geo_kernel.specs.Boxes.{IsBoxOf}
use Rattle.pcb_model.specs.declared.design.Design.{Design}
use Rattle.pcb_model.specs.Bounds.{IsGreatestClearance}
use Rattle.pcb_tiles.specs.Tiling.{IsArea}

-- the area is the least box that holds the design's first boundary, and the reach the design's greatest clearance
pub record AreTilesOf (d : Design) (area : Rect4) (reach : ℕ) : Type 0 where
  pub is_area : IsArea area
  pub least : IfSome (slice_get d.bounds 0) (λ loops. IsBoxOf (Area loops) area)
  pub greatest : IsGreatestClearance d reach
