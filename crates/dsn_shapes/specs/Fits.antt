-- Shapes and rules that fit a design: what is read keeps to the bounds of its numbers.
use Rattle.std.specs.Prelude.{◌<◌, ◌≤◌, ◌^◌, IfSome}
use Rattle.geo_kernel.specs.declared.spine.Spine.{Spine}
use Rattle.geo_kernel.specs.declared.spine.Spine.TheVariants.{Chain, Area}
use Rattle.geo_kernel.specs.Spine.{IsWellFormed, IsSpineWithin}
use Rattle.geo_kernel.specs.Solid.{IsSimple}
use Rattle.pcb_model.specs.declared.design.RuleSet.{RuleSet}
use Rattle.pcb_model.specs.Bounds.{AreRulesWithin}
use Rattle.dsn_shapes.specs.declared.parts.LayerShape.{LayerShape}

-- a well formed shape with coordinates of at most 2 ^ 29 in absolute value and a width of at most 2 ^ 28
pub record IsShapeFit (s : LayerShape) : Type 0 where
  pub well_formed : IsWellFormed s.spine
  pub within : IsSpineWithin (2 ^ 29) s.spine
  pub width_within : s.width ≤ 2 ^ 28

-- a chain, or an area of one loop
abbrev pub IsPlainShape : LayerShape → Type 0
IsPlainShape s = IsSimple s.spine

-- an area
abbrev pub IsArea : Spine → Type 0
IsArea (Chain ps) = ⊥
IsArea (Area loops) = Unit {0}

-- a boundary is an area
pub record IsBoundShape (s : LayerShape) : Type 0 where
  pub fits : IsShapeFit s
  pub area : IsArea s.spine

-- a width from 1 to 2 ^ 28, and clearances of at most 2 ^ 28, where they are given
pub record IsRuleSetFit (rs : RuleSet) : Type 0 where
  pub width_within : IfSome rs.width (λ w. (0 < w) × (w ≤ 2 ^ 28))
  pub clearances_within : AreRulesWithin (2 ^ 28) rs
