-- Chains and areas, by their segments.
use Rattle.std.specs.Prelude.{ℕ, pos, ◌%◌, ◌<◌, ◌≤◌, ◌≡◌, ◌⊎◌, ◌-ℤ◌, ◌*ℤ◌, int_lt, int_le, Bool, cond, ◌&&◌, List, []}
use Rattle.std.specs.Prelude.{◌∷◌, ◌++◌, length, All, Any, count_by, flat_map}
use Rattle.geo_kernel.specs.declared.point.Point.{Point}
use Rattle.geo_kernel.specs.declared.spine.Spine.{Spine}
use Rattle.geo_kernel.specs.declared.spine.Spine.TheVariants.{Chain, Area}
use Rattle.geo_kernel.specs.Plane.{SegmentsKeep, SegmentsTouch, IsWithin}

-- a segment, from one end to the other; both may be one point
pub record Segment : Type 0 where
  pub from : Point
  pub to : Point

-- from p to the first of the points, and on from each point to the next
abbrev pub links : Point → List Point → List Segment
links p [] = []
links p (q ∷ qs) = record { from = p; to = q } ∷ links q qs

-- two segments that keep k
abbrev pub Keeps : ℕ → Segment → Segment → Type 0
Keeps k g h = SegmentsKeep g.from g.to h.from h.to k

-- two segments that touch by k
abbrev pub Touches : ℕ → Segment → Segment → Type 0
Touches k g h = SegmentsTouch g.from g.to h.from h.to k

-- the segment, without its upper end, meets the ray from p to greater x (p itself left out)
abbrev pub is_right : Point → Segment → Bool
is_right p g =
    let turn = (g.to.x -ℤ g.from.x) *ℤ (p.y -ℤ g.from.y) -ℤ (g.to.y -ℤ g.from.y) *ℤ (p.x -ℤ g.from.x) in
    cond (int_le g.from.y p.y) (int_lt p.y g.to.y && int_lt (pos 0) turn) (int_le g.to.y p.y && int_lt turn (pos 0))

-- the ray from p meets an odd number of the segments
abbrev pub IsOdd : Point → List Segment → Type 0
IsOdd p gs = count_by (is_right p) gs % 2 ≡ 1

-- the segments of a chain join neighbours; one point is a segment of its own
abbrev pub chain_segments : List Point → List Segment
chain_segments [] = []
chain_segments (p ∷ []) = links p (p ∷ [])
chain_segments (p ∷ q ∷ qs) = links p (q ∷ qs)

-- the last of a point and those that follow it
abbrev pub last_of : Point → List Point → Point
last_of p [] = p
last_of p (q ∷ qs) = last_of q qs

-- those of a loop lead from its last point to its first, and on
abbrev pub loop_segments : List Point → List Segment
loop_segments [] = []
loop_segments (p ∷ ps) = links (last_of p ps) (p ∷ ps)

-- a loop as a chain that ends where it begins
abbrev pub closed : List Point → List Point
closed [] = []
closed (p ∷ ps) = (p ∷ ps) ++ p ∷ []

-- the segments of all loops
abbrev pub area_segments : List (List Point) → List Segment
area_segments loops = flat_map loop_segments loops

-- the segments of a spine
abbrev pub spine_segments : Spine → List Segment
spine_segments (Chain ps) = chain_segments ps
spine_segments (Area loops) = area_segments loops

-- the parity rule: p is inside the loops
abbrev pub IsInside : Point → List (List Point) → Type 0
IsInside p loops = IsOdd p (area_segments loops)

-- the first point is inside the loops
abbrev pub BeginInside : List Point → List (List Point) → Type 0
BeginInside [] loops = ⊥
BeginInside (p ∷ ps) loops = IsInside p loops

-- all vertices of a spine
abbrev pub vertices : Spine → List Point
vertices (Chain ps) = ps
vertices (Area loops) = flat_map (λ loop. loop) loops

-- the points of a chain, or of an area's first loop
abbrev pub outline : Spine → List Point
outline (Chain ps) = ps
outline (Area []) = []
outline (Area (loop ∷ loops)) = loop

-- p is the first vertex of s
pub record IsFirst (s : Spine) (p : Point) : Type 0 where
  pub rest : List Point
  pub is : outline s ≡ p ∷ rest

-- the first vertex of s is inside t
abbrev pub BeginsInside : Spine → Spine → Type 0
BeginsInside s (Chain ps) = ⊥
BeginsInside s (Area loops) = BeginInside (outline s) loops

-- the segment keeps k from each segment of t
abbrev pub KeepsAll : ℕ → Spine → Segment → Type 0
KeepsAll k t g = All (Keeps k g) (spine_segments t)

-- the segment touches some segment of t by k
abbrev pub TouchesSome : ℕ → Spine → Segment → Type 0
TouchesSome k t g = Any (Touches k g) (spine_segments t)

-- each two segments keep k, and neither spine begins inside the other
pub record SpinesKeep (s t : Spine) (k : ℕ) : Type 0 where
  pub segments : All (KeepsAll k t) (spine_segments s)
  pub s_outside : ¬ (BeginsInside s t)
  pub t_outside : ¬ (BeginsInside t s)

-- some two segments touch by k, or a spine begins inside the other
abbrev pub SpinesTouch : Spine → Spine → ℕ → Type 0
SpinesTouch s t k = Any (TouchesSome k t) (spine_segments s) ⊎ (BeginsInside s t ⊎ BeginsInside t s)

-- p lies on a segment of a chain; no point is said to be on an area
abbrev pub IsOnSpine : Point → Spine → Type 0
IsOnSpine p (Chain ps) = Any (Touches 0 (record { from = p; to = p })) (chain_segments ps)
IsOnSpine p (Area loops) = ⊥

-- a chain has a point; an area has a loop, and each loop three points
abbrev pub IsWellFormed : Spine → Type 0
IsWellFormed (Chain ps) = 0 < length ps
IsWellFormed (Area loops) = (0 < length loops) × All (λ loop. 3 ≤ length loop) loops

-- all coordinates are at most m in absolute value
abbrev pub IsSpineWithin : ℕ → Spine → Type 0
IsSpineWithin m (Chain ps) = All (IsWithin m) ps
IsSpineWithin m (Area loops) = All (All (IsWithin m)) loops
