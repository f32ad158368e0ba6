-- The sheet: the box of the board's edge, and the unit by which legend, names and thin lines grow with the board.
use Rattle.std.specs.Prelude.{ℕ, ℤ, pos, ◌+◌, ◌*◌, ◌/◌, min, max, ◌+ℤ◌, ◌-ℤ◌, unsigned_abs, List, []}
use Rattle.std.specs.Prelude.{length, slice_index_or}
use Rattle.std.specs.List.{fold}
use Rattle.std.specs.Int.{int_min, int_max}
use Rattle.geo_kernel.specs.declared.point.Point.{Point}
use Rattle.geo_kernel.specs.declared.point.Rect4.{Rect4}
use Rattle.pcb_model.specs.declared.design.Design.{Design}
use Rattle.pcb_model.specs.Sound.{origin}
use Rattle.board_picture.specs.declared.sheet.Sheet.{Sheet}

-- the least box of a box and a point
abbrev pub grown : Rect4 → Point → Rect4
grown b p = record { x0 = int_min b.x0 p.x; y0 = int_min b.y0 p.y; x1 = int_max b.x1 p.x; y1 = int_max b.y1 p.y }

abbrev pub grown_by_loop : Rect4 → List Point → Rect4
grown_by_loop b points = fold grown b points

abbrev pub grown_by_bound : Rect4 → List (List Point) → Rect4
grown_by_bound b loops = fold grown_by_loop b loops

-- the first point of the first boundary
abbrev pub first_point : List (List (List Point)) → Point
first_point bounds = slice_index_or (slice_index_or (slice_index_or bounds 0 []) 0 []) 0 origin

abbrev pub box_at : Point → Rect4
box_at p = record { x0 = p.x; y0 = p.y; x1 = p.x; y1 = p.y }

-- the least box of the points of all boundaries
abbrev pub box_of : List (List (List Point)) → Rect4
box_of bounds = fold grown_by_bound (box_at (first_point bounds)) bounds

-- the shorter side of the least box of the points of an area
abbrev pub narrow_side : List (List Point) → ℕ
narrow_side loops =
    let b = grown_by_bound (box_at (slice_index_or (slice_index_or loops 0 []) 0 origin)) loops in
    min (unsigned_abs (b.x1 -ℤ b.x0)) (unsigned_abs (b.y1 -ℤ b.y0))

-- the unit is a fortieth of the board's longer side
abbrev pub sheet_in : Rect4 → Sheet
sheet_in b =
    let wide = unsigned_abs (b.x1 -ℤ b.x0) in
    let high = unsigned_abs (b.y1 -ℤ b.y0) in
    record { left = b.x0; top = b.y1; wide = wide; high = high; unit = max wide high / 40 }

unfoldable pub sheet_of : Design → Sheet
sheet_of d = sheet_in (box_of d.bounds)

-- a unit right of the board, which is two units from the sheet's left end, since names end to the left of places
abbrev pub legend_left : Sheet → ℕ
legend_left s = s.wide + 3 * s.unit

-- how far the board is moved to the right and, with y turned, downwards
abbrev pub shift_x : Sheet → ℤ
shift_x s = pos (2 * s.unit) -ℤ s.left

abbrev pub shift_y : Sheet → ℤ
shift_y s = pos s.unit +ℤ s.top

-- two units to the left of the board, one to its right, and fourteen for the legend
abbrev pub sheet_width : Sheet → ℕ
sheet_width s = s.wide + 17 * s.unit

-- a unit above and below the board or the legend, whose rows are a unit high
abbrev pub sheet_height : Sheet → ℕ → ℕ
sheet_height s rows = max s.high (rows * s.unit) + 2 * s.unit

-- a row for each layer, and at most eleven more
abbrev pub rows_of : Design → ℕ
rows_of d = length d.layers + 11
