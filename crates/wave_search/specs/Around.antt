-- The boxes of goals, and how far a node lies from the nearest.
use Rattle.std.specs.Prelude.{◌≤◌, ◌<◌, ◌^◌, ◌+◌, ◌⊎◌, ℕ, ℤ, pos, ◌-ℤ◌, unsigned_abs, max, min, List, [], ◌∷◌, All}
use Rattle.std.specs.Prelude.{Contains, fold, cond, nat_lt}
use Rattle.std.specs.Int.{int_min, int_max}
use Rattle.geo_kernel.specs.declared.point.Point.{Point}
use Rattle.geo_kernel.specs.declared.point.Rect4.{Rect4}
use Rattle.geo_kernel.specs.Boxes.{IsIn}
use Rattle.route_lattice.specs.Mesh.{Mesh, node_count, point_of}
use Rattle.route_lattice.specs.Parts.{IsBoxWithin}

-- the coordinates of the lines are within 2^29
pub record AreLinesWithin (m : Mesh) : Type 0 where
  pub xs : All (λ x. unsigned_abs x ≤ 2 ^ 29) m.xs
  pub ys : All (λ y. unsigned_abs y ≤ 2 ^ 29) m.ys

-- the box of a point alone
abbrev pub box_at : Point → Rect4
box_at p = record { x0 = p.x; y0 = p.y; x1 = p.x; y1 = p.y }

-- the least box of a box and a point
abbrev pub widened : Rect4 → Point → Rect4
widened r p = record { x0 = int_min r.x0 p.x; y0 = int_min r.y0 p.y; x1 = int_max r.x1 p.x; y1 = int_max r.y1 p.y }

-- the point is in one of the boxes
abbrev pub IsHeldBy : List Rect4 → Point → Type 0
IsHeldBy [] p = ⊥
IsHeldBy (r ∷ rs) p = IsIn r p ⊎ IsHeldBy rs p

-- the boxes are within 2^29, and each of the numbers that is a node is in one of them
pub record AreAround (m : Mesh) (goals : List ℕ) (boxes : List Rect4) : Type 0 where
  pub within : All IsBoxWithin boxes
  pub held : (g : ℕ) → Contains goals g → g < node_count m → IsHeldBy boxes (point_of m g)

-- how far a coordinate is above another, 0 where it isn't
abbrev pub above_by : ℤ → ℤ → ℕ
above_by a b = unsigned_abs (int_max (a -ℤ b) (pos 0))

-- how far a coordinate is below the lesser number or above the greater
abbrev pub outside_of : ℤ → ℤ → ℤ → ℕ
outside_of low high x = max (above_by low x) (above_by x high)

-- the way along the axes from a point to a box
abbrev pub way_to : Rect4 → Point → ℕ
way_to r p = outside_of r.x0 r.x1 p.x + outside_of r.y0 r.y1 p.y

-- the lesser of a way and the way to a box
abbrev pub nearer_of : Point → ℕ → Rect4 → ℕ
nearer_of p way r = min way (way_to r p)

-- the way to the nearest of the boxes, at most 2^31
unfoldable pub way_to_nearest : List Rect4 → Point → ℕ
way_to_nearest boxes p = fold (nearer_of p) (2 ^ 31) boxes

-- the way from a node's point to the nearest box; of a number that is no node it is 0
unfoldable pub low_at : Mesh → List Rect4 → ℕ → ℕ
low_at m boxes v = cond (nat_lt v (node_count m)) (way_to_nearest boxes (point_of m v)) 0
