-- What the private functions of `lines` and `axis` give: spans of multiples of the grid, and the anchors beside them.
use Rattle.std.specs.Prelude.{◌≡◌, ℕ, ℤ, pos, ◌*ℤ◌, ◌<ℤ◌, ◌≤ℤ◌, ◌*◌, ◌^◌, ◌≤◌, ◌<◌, unsigned_abs, int_lt, List, length}
use Rattle.std.specs.Prelude.{filter, Bool, ◌&&◌, not, Contains}
use Rattle.std.specs.Ordering.{int_cmp}
use Rattle.std.specs.List.Sorted.{IsStrictlySortedBy}
use Rattle.route_lattice.specs.declared.lines.Ruler.{Ruler}
use Rattle.route_lattice.specs.declared.lines.Span.{Span}
use Rattle.route_lattice.specs.declared.axis.Axis.{Axis}
use Rattle.route_lattice.specs.Round.{rounded_down}
use Rattle.route_lattice.specs.Lines.{is_grid_line, line_list}

-- a ruler's numbers are small enough that no product wraps
pub record IsRulerFit (r : Ruler) : Type 0 where
  pub some_unit : 0 < r.unit
  pub short_unit : r.unit ≤ 2 ^ 29
  pub some_grid : 0 < r.grid
  pub fine_grid : r.grid ≤ 2 ^ 30
  pub low_within : unsigned_abs r.low ≤ 2 ^ 29
  pub high_within : unsigned_abs r.high ≤ 2 ^ 29

-- the line of a multiple of the grid
abbrev pub line_of : ℕ → ℕ → ℤ → ℤ
line_of unit grid k = rounded_down unit (k *ℤ pos grid)

-- of the multiples of the grid those from the first to below the last lie, rounded down, strictly between low and high,
-- and no others
pub record IsSpan (unit grid : ℕ) (low high first last : ℤ) : Type 0 where
  pub within : (k : ℤ) → low <ℤ rounded_down unit (k *ℤ pos grid) → rounded_down unit (k *ℤ pos grid) <ℤ high
      → (first ≤ℤ k) × (k <ℤ last)
  pub lies : (k : ℤ) → first ≤ℤ k → k <ℤ last → (low <ℤ rounded_down unit (k *ℤ pos grid))
      × (rounded_down unit (k *ℤ pos grid) <ℤ high)

-- ys has the numbers of xs, ascending, each once
pub record IsAscending (xs ys : List ℤ) : Type 0 where
  pub ascends : IsStrictlySortedBy int_cmp ys
  pub sound : (x : ℤ) → Contains ys x → Contains xs x
  pub complete : (x : ℤ) → Contains xs x → Contains ys x

-- x lies strictly between low and high, and is no line of the grid
abbrev pub is_other : ℕ → ℕ → ℤ → ℤ → ℤ → Bool
is_other unit grid low high x = int_lt low x && (int_lt x high && not (is_grid_line unit grid x))

-- the ends of a span are within 2^32
pub record IsSpanFit (s : Span) : Type 0 where
  pub first_within : unsigned_abs s.first ≤ 2 ^ 32
  pub end_within : unsigned_abs s.end ≤ 2 ^ 32

-- the multiples of a span are within 2^32
pub record StaysClose (grid : ℕ) (first last : ℤ) : Type 0 where
  pub close : (k : ℤ) → first ≤ℤ k → k <ℤ last → unsigned_abs k * grid ≤ 2 ^ 32

-- the sizes of an axis
pub record IsAxisFit (a : Axis) : Type 0 where
  pub ruler_fits : IsRulerFit a.ruler
  pub coarse : a.ruler.unit ≤ a.ruler.grid
  pub span : IsSpan a.ruler.unit a.ruler.grid a.ruler.low a.ruler.high a.span.first a.span.end
  pub span_fits : IsSpanFit a.span
  pub few : length a.others ≤ 2 ^ 26

-- an axis with the lines of a ruler and anchors: its others are the anchors that are no lines of its grid
pub record IsAxisOf (r : Ruler) (anchors : List ℤ) (a : Axis) : Type 0 where
  pub beside : IsAscending (filter (is_other a.ruler.unit a.ruler.grid a.ruler.low a.ruler.high) anchors) a.others
  pub same : line_list a.ruler.unit a.ruler.grid a.ruler.low a.ruler.high anchors
      ≡ line_list r.unit r.grid r.low r.high anchors
