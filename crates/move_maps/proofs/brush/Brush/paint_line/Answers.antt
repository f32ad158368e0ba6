use Rattle.std.proofs.Common.{◌≡◌, ℕ, ◌+◌, ◌*◌, ◌≤◌, ◌<◌, ◌^◌, length, refl, sym, ap, ◌∙◌, subst, arith}
use Rattle.route_lattice.specs.Mesh.{column, row, level}
use Rattle.route_lattice.specs.Ways.{way_count}
use Rattle.route_lattice.proofs.Places.{width_positive}
use Rattle.move_maps.specs.Paint.{Paints}
use Rattle.move_maps.proofs.Lines.{left_of, line_next, line_end, row_small, place_small}
use Rattle.move_maps.proofs.Spanning.{line_sides}
use Rattle.move_maps.proofs.Layered.{clear_at}
use Rattle.move_maps.proofs.Plains.{level_is, row_is, column_is}
use Rattle.move_maps.proofs.brush.Brush.paint_line.Goals as goal

inside : (col right n : ℕ) → col < right → right ≤ n → col < n
inside col right n h k = omega (arith, h, k)

equal : (i n : ℕ) → i ≤ n → n ≤ i → i ≡ n
equal i n h k = omega (arith, h, k)

-- a line's number and that of its first node, as they are computed
begin_small : (layers h w level row y x : ℕ) → y ≡ h → x ≡ w → 0 < layers * h * w → layers * h * w ≤ 2 ^ 24
    → level < layers → row < h → (level * y + row ≤ 2 ^ 24) × ((level * y + row) * x ≤ 2 ^ 24)
begin_small layers h w level row y x ey ex p s l r =
    let k = (place_small layers h w level row 0 y x ey ex p s l r (width_positive w (layers * h) 0 p)).1 in
    (subst (λ n. level * n + row ≤ 2 ^ 24) (sym ey) (row_small layers h w level row p s l r).1, omega (arith, k))

pub overflow_mul-start : goal.overflow_mul-start
overflow_mul-start c =
    let m = c.args.self.now.group.lat in let r = c.requires in
    let k = (begin_small (length m.layers) (length m.ys) (length m.xs) c.args.level c.args.row c.rows.result
    c.columns-width.result c.rows.ensures c.columns-width.ensures r.some
    c.told.ensures.can_move.fits.few_nodes r.level r.row).0 in
    omega (arith, k)

pub overflow_add-start : goal.overflow_add-start
overflow_add-start c =
    let m = c.args.self.now.group.lat in let r = c.requires in
    let k = (begin_small (length m.layers) (length m.ys) (length m.xs) c.args.level c.args.row c.rows.result
    c.columns-width.result c.rows.ensures c.columns-width.ensures r.some
    c.told.ensures.can_move.fits.few_nodes r.level r.row).0 in
    omega (arith, k)

pub overflow_mul-start-2 : goal.overflow_mul-start-2
overflow_mul-start-2 c =
    let m = c.args.self.now.group.lat in let r = c.requires in
    let k = (begin_small (length m.layers) (length m.ys) (length m.xs) c.args.level c.args.row c.rows.result
    c.columns-width.result c.rows.ensures c.columns-width.ensures r.some
    c.told.ensures.can_move.fits.few_nodes r.level r.row).1 in
    omega (arith, k)

pub loop-column-init : goal.loop-column-init
loop-column-init c =
    let s = c.args.self.now in let t = s.group in let m = t.lat in
    let r = c.requires in let span = c.span-span.result in let k = c.span-span.ensures in
    let ew = c.columns-width.ensures in
    left_of s.stroke t.d m t.first s.item (c.args.level * length m.ys + c.args.row) span.left span.right
    (line_sides t.d m t.first s.item s.windows s.windows (length m.xs) c.args.level c.args.row span.left span.right
    refl refl r.row c.told.ensures.together k.span) k.ordered
    k.span.within
    (row_small (length m.layers) (length m.ys) (length m.xs) c.args.level c.args.row r.some
    c.told.ensures.can_move.fits.few_nodes r.level r.row).0 c.args.counts.now

pub loop-column-preserved : goal.loop-column-preserved
loop-column-preserved c =
    let s = c.args.self.now in let t = s.group in let m = t.lat in
    let a = way_count t.d m t.first in
    let eh = c.rows.ensures in
    let ew = c.columns-width.ensures in
    let line = c.args.level * length m.ys + c.args.row in
    let col = c.loop-column.column in
    let xs = c.loop-column.counts in let ys = c.paint_crossing.new.counts in
    line_next s.stroke t.d m t.first s.item s.window c.told.ensures.covers c.told.ensures.window
    c.args.counts.now line col xs ys c.loop-column.invariant
    (subst (λ n. Paints s.stroke t.d m t.first s.item (((c.args.level * n + c.args.row) * length m.xs + col) * a)
    (((c.args.level * n + c.args.row) * length m.xs + col + 1) * a) xs ys) eh
    (subst (λ n. Paints s.stroke t.d m t.first s.item
    (((c.args.level * c.rows.result + c.args.row) * n + col) * a)
    (((c.args.level * c.rows.result + c.args.row) * n + col + 1) * a) xs ys) ew c.paint_crossing.ensures))

pub overflow_add-crossing : goal.overflow_add-crossing
overflow_add-crossing c =
    let m = c.args.self.now.group.lat in let r = c.requires in
    let ew = c.columns-width.ensures in
    let k = (place_small (length m.layers) (length m.ys) (length m.xs) c.args.level c.args.row c.loop-column.column
    c.rows.result c.columns-width.result c.rows.ensures ew r.some
    c.told.ensures.can_move.fits.few_nodes r.level r.row
    (inside c.loop-column.column c.span-span.result.right (length m.xs) c.loop-column-test.true
    c.span-span.ensures.span.within)).1 in
    omega (arith, k)

pub overflow_cast-crossing : goal.overflow_cast-crossing
overflow_cast-crossing c =
    let m = c.args.self.now.group.lat in let r = c.requires in
    let ew = c.columns-width.ensures in
    let k = (place_small (length m.layers) (length m.ys) (length m.xs) c.args.level c.args.row c.loop-column.column
    c.rows.result c.columns-width.result c.rows.ensures ew r.some
    c.told.ensures.can_move.fits.few_nodes r.level r.row
    (inside c.loop-column.column c.span-span.result.right (length m.xs) c.loop-column-test.true
    c.span-span.ensures.span.within)).1 in
    omega (arith, k)

pub paint_crossing-requires-clause-clear : goal.paint_crossing-requires-clause-clear
paint_crossing-requires-clause-clear c =
    let s = c.args.self.now in let t = s.group in let m = t.lat in
    let ew = c.columns-width.ensures in
    clear_at t.d m t.first s.item c.args.level c.args.row c.loop-column.column c.args.first c.rows.result
    c.columns-width.result c.rows.ensures ew c.requires.row
    (inside c.loop-column.column c.span-span.result.right (length m.xs) c.loop-column-test.true
    c.span-span.ensures.span.within) c.requires.clear

pub paint_crossing-requires-clause-crossing : goal.paint_crossing-requires-clause-crossing
paint_crossing-requires-clause-crossing c =
    let m = c.args.self.now.group.lat in let r = c.requires in
    let eh = c.rows.ensures in
    let ew = c.columns-width.ensures in
    let col = c.loop-column.column in
    let in_line = inside col c.span-span.result.right (length m.xs) c.loop-column-test.true
    c.span-span.ensures.span.within in
    record {
      there = (place_small (length m.layers) (length m.ys) (length m.xs) c.args.level c.args.row col c.rows.result
          c.columns-width.result c.rows.ensures ew r.some c.told.ensures.can_move.fits.few_nodes r.level r.row
          in_line).0;
      level_is = ap (λ n. level m ((c.args.level * n + c.args.row) * c.columns-width.result + col)) eh
          ∙ (ap (λ n. level m ((c.args.level * length m.ys + c.args.row) * n + col)) ew
          ∙ level_is (length m.ys) (length m.xs) c.args.level c.args.row col r.row in_line);
      row_is = ap (λ n. row m ((c.args.level * n + c.args.row) * c.columns-width.result + col)) eh
          ∙ (ap (λ n. row m ((c.args.level * length m.ys + c.args.row) * n + col)) ew
          ∙ row_is (length m.ys) (length m.xs) c.args.level c.args.row col r.row in_line);
      column_is = ap (λ n. column m ((c.args.level * n + c.args.row) * c.columns-width.result + col)) eh
          ∙ (ap (λ n. column m ((c.args.level * length m.ys + c.args.row) * n + col)) ew
          ∙ column_is (length m.ys) (length m.xs) c.args.level c.args.row col in_line);
    }

pub paint_crossing-requires-clause-size : goal.paint_crossing-requires-clause-size
paint_crossing-requires-clause-size c = c.loop-column.invariant.size ∙ c.requires.size

pub returns : goal.returns
returns c =
    let s = c.args.self.now in let t = s.group in let m = t.lat in
    let r = c.requires in let span = c.span-span.result in let k = c.span-span.ensures in
    let ew = c.columns-width.ensures in
    line_end s.stroke t.d m t.first s.item (c.args.level * length m.ys + c.args.row) span.left span.right
    (line_sides t.d m t.first s.item s.windows s.windows (length m.xs) c.args.level c.args.row span.left span.right
    refl refl r.row c.told.ensures.together k.span) k.ordered
    k.span.within
    (row_small (length m.layers) (length m.ys) (length m.xs) c.args.level c.args.row r.some
    c.told.ensures.can_move.fits.few_nodes r.level r.row).0 c.loop-column.column c.args.counts.now c.loop-column.counts
    (equal c.loop-column.column span.right (c.loop-column.auto.column-end k.ordered) c.loop-column-test.false)
    c.loop-column.invariant
