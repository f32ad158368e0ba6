-- What the private functions of `segment` give.
use Rattle.std.specs.Prelude.{ℕ, ℤ, pos, ◌+ℤ◌, ◌-ℤ◌, ◌*ℤ◌, ◌≤ℤ◌, ◌<ℤ◌, ◌*◌, ◌<◌, ◌≤◌, ◌≡◌, ◌⊎◌}
use Rattle.geo_kernel.specs.declared.point.Point.{Point}
use Rattle.geo_kernel.specs.Plane.{distance_at, SegmentsKeep, SegmentsTouch}

-- the dot product of u and v
abbrev pub dot : ℤ → ℤ → ℤ → ℤ → ℤ
dot ux uy vx vy = ux *ℤ vx +ℤ uy *ℤ vy

-- the cross product of u and v
abbrev pub cross : ℤ → ℤ → ℤ → ℤ → ℤ
cross ux uy vx vy = ux *ℤ vy -ℤ uy *ℤ vx

-- the squared length of u
abbrev pub norm : ℤ → ℤ → ℤ
norm ux uy = dot ux uy ux uy

-- above/below is the least squared distance of the point p from the segment c d
pub record IsNearest (p c d : Point) (above below : ℤ) : Type 0 where
  pub positive : pos 0 <ℤ below
  pub least : (n t : ℕ) → 0 < n → t ≤ n → (pos (n * n) *ℤ above) ≤ℤ (below *ℤ distance_at n 0 t p p c d)
  pub n : ℕ
  pub t : ℕ
  pub some : 0 < n
  pub within : t ≤ n
  pub reached : below *ℤ distance_at n 0 t p p c d ≡ pos (n * n) *ℤ above

-- two lines meet in the point that lies g/c along the one segment and h/c along the other, and it lies on both
pub record Meets (c g h : ℤ) : Type 0 where
  pub apart : pos 0 <ℤ c
  pub from_first : pos 0 ≤ℤ g
  pub to_first : g ≤ℤ c
  pub from_second : pos 0 ≤ℤ h
  pub to_second : h ≤ℤ c

-- the segments a b and c d, no parallels, have a point in common
abbrev pub Cross : Point → Point → Point → Point → Type 0
Cross a b c d =
    let wx = a.x -ℤ c.x in
    let wy = a.y -ℤ c.y in
    let ux = b.x -ℤ a.x in
    let uy = b.y -ℤ a.y in
    let vx = d.x -ℤ c.x in
    let vy = d.y -ℤ c.y in
    Meets (cross ux uy vx vy) (cross vx vy wx wy) (cross ux uy wx wy)
    ⊎ Meets (pos 0 -ℤ cross ux uy vx vy) (pos 0 -ℤ cross vx vy wx wy) (pos 0 -ℤ cross ux uy wx wy)

-- each end keeps k from the other segment
pub record EndsKeep (a b c d : Point) (k : ℕ) : Type 0 where
  pub first : SegmentsKeep a a c d k
  pub second : SegmentsKeep b b c d k
  pub third : SegmentsKeep c c a b k
  pub fourth : SegmentsKeep d d a b k

-- some end touches the other segment
abbrev pub EndsTouch : Point → Point → Point → Point → ℕ → Type 0
EndsTouch a b c d k =
    (SegmentsTouch a a c d k ⊎ SegmentsTouch b b c d k) ⊎ (SegmentsTouch c c a b k ⊎ SegmentsTouch d d a b k)
