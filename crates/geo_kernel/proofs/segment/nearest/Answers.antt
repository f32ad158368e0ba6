use Rattle.std.proofs.Common.{pos, lit≤, refl, sym, ◌∙◌}
use Rattle.geo_kernel.proofs.Bounds.{at_most, above}
use Rattle.geo_kernel.proofs.Segments.{as_point, at_first, at_second, at_between}
use Rattle.geo_kernel.proofs.segment.nearest.Goals as goal

pub returns-then-along-le0 : goal.returns-then-along-le0
returns-then-along-le0 c =
    rw c.of.ensures.below
    (at_first c.args.p.at c.args.from.at c.args.to.at (as_point c.minus-w.result)
    (as_point c.minus-v.result) c.dot-along.result
    c.dot-length.result
    c.minus-w.ensures.x c.minus-w.ensures.y c.minus-v.ensures.x c.minus-v.ensures.y c.dot-along.ensures.value
    c.dot-length.ensures.value
    _ (at_most c.dot-along.result (pos 0) c.dot-along.ensures.within (lit≤ tt) c.if-along-le0.true)
    c.of.ensures.above)

pub returns-then-along-length : goal.returns-then-along-length
returns-then-along-length c =
    rw c.of-then-along-length.ensures.below
    (at_second c.args.p.at c.args.from.at c.args.to.at (as_point c.minus-w.result)
    (as_point c.minus-v.result) c.dot-along.result
    c.dot-length.result
    c.minus-w.ensures.x c.minus-w.ensures.y c.minus-v.ensures.x c.minus-v.ensures.y c.dot-along.ensures.value
    c.dot-length.ensures.value
    (as_point c.minus.result) _ c.minus.ensures.x c.minus.ensures.y
    (at_most c.dot-length.result c.dot-along.result c.dot-length.ensures.within c.dot-along.ensures.within
    c.if-along-length.true) c.of-then-along-length.ensures.above)

pub returns-else-along-length : goal.returns-else-along-length
returns-else-along-length c =
    rw (c.beside.ensures.below ∙ sym c.dot-length.ensures.value)
    (at_between c.args.p.at c.args.from.at c.args.to.at (as_point c.minus-w.result)
    (as_point c.minus-v.result)
    c.dot-along.result c.dot-length.result
    c.minus-w.ensures.x c.minus-w.ensures.y c.minus-v.ensures.x c.minus-v.ensures.y c.dot-along.ensures.value
    c.dot-length.ensures.value
    _ _ refl
    (above c.dot-along.result (pos 0) c.dot-along.ensures.within (lit≤ tt) c.if-along-le0.false)
    (above c.dot-length.result c.dot-along.result c.dot-length.ensures.within c.dot-along.ensures.within
    c.if-along-length.false) c.beside.ensures.above)
