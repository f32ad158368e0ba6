use Rattle.std.proofs.Common.{◌∙◌, arith, pos, refl, sym}
use Rattle.geo_kernel.specs.declared.point.Point.{Point}
use Rattle.route_check.proofs.Points.{turned_differ, turned_end, turned_more}
use Rattle.route_check.proofs.equal.are_points_turned.Goals as goal

abbrev origin : Point
origin = record { x = pos 0; y = pos 0 }

pub returns-then-c-e : goal.returns-then-c-e
returns-then-c-e c = sym (turned_differ c.args.c.now c.args.e.now (λ same. omega (arith, same, c.if-c-e.true)))

pub loop-i-init : goal.loop-i-init
loop-i-init c = refl

pub returns-then-not-is_point : goal.returns-then-not-is_point
returns-then-not-is_point c =
    let step = rw (← c.if-not-is_point.ensures) at (turned_more c.args.c.now c.args.e.now c.loop-i.i origin
    c.loop-i-test.true (omega (arith, c.loop-i-test.true, c.if-c-e.false))) in
    sym step ∙ c.loop-i.invariant

pub loop-i-preserved : goal.loop-i-preserved
loop-i-preserved c =
    let step = rw (← c.if-not-is_point.ensures) at (turned_more c.args.c.now c.args.e.now c.loop-i.i origin
    c.loop-i-test.true (omega (arith, c.loop-i-test.true, c.if-c-e.false))) in
    sym step ∙ c.loop-i.invariant

pub returns : goal.returns
returns c = sym (turned_end c.args.c.now c.args.e.now c.loop-i.i (omega (arith, c.loop-i-test.false))
    (omega (arith, c.loop-i-test.false, c.if-c-e.false))) ∙ c.loop-i.invariant
