use Rattle.std.proofs.Common.{◌≡◌, ℕ, ◌≤◌, ◌<◌, length, ◌∙◌, sym, subst, arith}
use Rattle.move_maps.specs.declared.window.Window.{Window}
use Rattle.move_maps.specs.Paint.{Covers, IsWindowIn}
use Rattle.move_maps.proofs.Lines.{below_of, level_next, level_end}
use Rattle.move_maps.proofs.brush.Brush.paint_level.Goals as goal

pub loop-row-init : goal.loop-row-init
loop-row-init c =
    let s = c.args.self.now in let t = s.group in
    below_of s.stroke t.d t.lat t.first s.item c.window-window.result
    (subst (λ (w : Window). Covers t.d t.lat t.first s.item w) (sym c.window-window.ensures) c.told.ensures.covers)
    (subst (IsWindowIn t.lat) (sym c.window-window.ensures) c.told.ensures.window) c.args.counts.now c.args.level
    c.requires.level

pub loop-row-preserved : goal.loop-row-preserved
loop-row-preserved c =
    let s = c.args.self.now in let t = s.group in
    level_next s.stroke t.d t.lat t.first s.item s.window c.told.ensures.covers c.told.ensures.window
    c.args.counts.now c.args.level c.loop-row.row c.loop-row.counts c.paint_line.new.counts c.loop-row.invariant
    c.paint_line.ensures

pub paint_line-requires-clause-size : goal.paint_line-requires-clause-size
paint_line-requires-clause-size c = c.loop-row.invariant.size ∙ c.requires.size

inside : (col right n : ℕ) → col < right → right ≤ n → col < n
inside col right n h k = omega (arith, h, k)

pub paint_line-requires-clause-row : goal.paint_line-requires-clause-row
paint_line-requires-clause-row c =
    let m = c.args.self.now.group.lat in
    inside c.loop-row.row c.window-window.result.top (length m.ys) c.loop-row-test.true
    (subst (IsWindowIn m) (sym c.window-window.ensures) c.told.ensures.window).top

equal : (i n : ℕ) → i ≤ n → n ≤ i → i ≡ n
equal i n h k = omega (arith, h, k)

pub returns : goal.returns
returns c =
    let s = c.args.self.now in let t = s.group in
    let u = c.window-window.result in
    let w = subst (IsWindowIn t.lat) (sym c.window-window.ensures) c.told.ensures.window in
    level_end s.stroke t.d t.lat t.first s.item u
    (subst (λ (w : Window). Covers t.d t.lat t.first s.item w) (sym c.window-window.ensures) c.told.ensures.covers) w
    c.args.counts.now c.loop-row.counts c.args.level c.loop-row.row c.requires.level
    (equal c.loop-row.row u.top (c.loop-row.auto.row-end w.rows) c.loop-row-test.false) c.loop-row.invariant

pub paint_line-requires-clause-clear : goal.paint_line-requires-clause-clear
paint_line-requires-clause-clear c = c.first_move-first.ensures
