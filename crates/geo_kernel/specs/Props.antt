-- Facts of spines that a struct may keep in a ghost field: each is proved in at most one way.
use Rattle.std.specs.Prelude.{ℕ, ◌≤◌, List, length, All, unsigned_abs}
use Rattle.std.specs.Coded.{×_prop, Π_prop, le_prop}
use Rattle.geo_kernel.specs.declared.point.Point.{Point}
use Rattle.geo_kernel.specs.declared.spine.Spine.{Spine}
use Rattle.geo_kernel.specs.declared.spine.Spine.TheVariants.{Chain, Area}
use Rattle.geo_kernel.specs.Plane.{IsWithin}
use Rattle.geo_kernel.specs.Spine.{IsWellFormed, IsSpineWithin}

-- a fact of all elements
all_prop : {X : Type 0} (P : X → Type 0) → ((x : X) → IsProp (P x)) → (xs : List X) → IsProp (All P xs)
all_prop P f xs = Π_prop (λ k. Π_prop (λ d. Π_prop (λ l. f _)))

-- for a ghost field that says IsWellFormed
pub well_formed_prop : (s : Spine) → IsProp (IsWellFormed s)
well_formed_prop (Chain ps) = le_prop
well_formed_prop (Area loops) =
    ×_prop le_prop (all_prop (λ loop. 3 ≤ length loop) (λ loop. le_prop {n = 3} {m = length loop}) loops)

points_prop : (m : ℕ) (ps : List Point) → IsProp (All (IsWithin m) ps)
points_prop m ps =
    all_prop (IsWithin m)
    (λ p. ×_prop (le_prop {n = unsigned_abs p.x} {m = m}) (le_prop {n = unsigned_abs p.y} {m = m})) ps

-- for a ghost field that says IsSpineWithin
pub spine_within_prop : (m : ℕ) (s : Spine) → IsProp (IsSpineWithin m s)
spine_within_prop m (Chain ps) = points_prop m ps
spine_within_prop m (Area loops) = all_prop (All (IsWithin m)) (points_prop m) loops
