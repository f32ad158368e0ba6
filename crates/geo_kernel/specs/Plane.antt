-- Distances of segments, over all their rational points.
use Rattle.std.specs.Prelude.{ℕ, ℤ, pos, ◌+ℤ◌, ◌-ℤ◌, ◌*ℤ◌, ◌≤ℤ◌, ◌*◌, ◌-◌, ◌<◌, ◌≤◌, unsigned_abs}
use Rattle.geo_kernel.specs.declared.point.Point.{Point}

-- along one axis: n times the way to the point of p q at s/n from the point of i j at t/n
abbrev pub apart : ℕ → ℕ → ℕ → ℤ → ℤ → ℤ → ℤ → ℤ
apart n s t p q i j = (pos (n - s) *ℤ p +ℤ pos s *ℤ q) -ℤ (pos (n - t) *ℤ i +ℤ pos t *ℤ j)

-- the squared length of a vector
abbrev pub squared : ℤ → ℤ → ℤ
squared x y = x *ℤ x +ℤ y *ℤ y

-- n squared times the squared distance of the point of a b at s/n and the point of c d at t/n
abbrev pub distance_at : ℕ → ℕ → ℕ → Point → Point → Point → Point → ℤ
distance_at n s t a b c d = squared (apart n s t a.x b.x c.x d.x) (apart n s t a.y b.y c.y d.y)

-- no two points of the segments a b and c d are nearer than half of k
pub record SegmentsKeep (a b c d : Point) (k : ℕ) : Type 0 where
  pub keep : (n s t : ℕ) → 0 < n → s ≤ n → t ≤ n → pos (k * k * (n * n)) ≤ℤ (pos 4 *ℤ distance_at n s t a b c d)

-- some two points of the segments a b and c d are at most half of k apart
pub record SegmentsTouch (a b c d : Point) (k : ℕ) : Type 0 where
  pub n : ℕ
  pub s : ℕ
  pub t : ℕ
  pub some : 0 < n
  pub s_within : s ≤ n
  pub t_within : t ≤ n
  pub touch : (pos 4 *ℤ distance_at n s t a b c d) ≤ℤ pos (k * k * (n * n))

-- both coordinates are at most m in absolute value
abbrev pub IsWithin : ℕ → Point → Type 0
IsWithin m p = (unsigned_abs p.x ≤ m) × (unsigned_abs p.y ≤ m)
