use Rattle.std.proofs.Common.{pos, sym, ◌∙◌}
use Rattle.geo_kernel.specs.declared.point.Point.{Point}
use Rattle.ses_writer.proofs.Turned.{is_lesser-drop}
use Rattle.ses_writer.proofs.words.is_lesser_reversed.Goals as goal

abbrev origin : Point
origin = record { x = pos 0; y = pos 0 }

pub returns-then-comes_before : goal.returns-then-comes_before
returns-then-comes_before c =
    let step = rw (← c.if-comes_before.ensures)
    at (is_lesser-drop c.args.points.now c.loop-i.i origin c.loop-i-test.true) in
    sym step ∙ c.loop-i.invariant

pub returns-then-comes_before-2 : goal.returns-then-comes_before-2
returns-then-comes_before-2 c =
    let step = rw (← c.if-comes_before.ensures, ← c.if-comes_before-2.ensures)
    at (is_lesser-drop c.args.points.now c.loop-i.i origin c.loop-i-test.true) in
    sym step ∙ c.loop-i.invariant

pub loop-i-preserved : goal.loop-i-preserved
loop-i-preserved c =
    let step = rw (← c.if-comes_before.ensures, ← c.if-comes_before-2.ensures)
    at (is_lesser-drop c.args.points.now c.loop-i.i origin c.loop-i-test.true) in
    sym step ∙ c.loop-i.invariant
