-- Points in the copper of a spine.
use Rattle.std.specs.Prelude.{ℕ, [], ◌∷◌}
use Rattle.geo_kernel.specs.declared.point.Point.{Point}
use Rattle.geo_kernel.specs.declared.spine.Spine.{Spine}
use Rattle.geo_kernel.specs.declared.spine.Spine.TheVariants.{Chain}
use Rattle.geo_kernel.specs.Spine.{SpinesTouch}

-- the point lies within half of the width of the spine, or inside it
abbrev pub CoversBy : Point → ℕ → Spine → Type 0
CoversBy p width s = SpinesTouch (Chain (p ∷ [])) s width
