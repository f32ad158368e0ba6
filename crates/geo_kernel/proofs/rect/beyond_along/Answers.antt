use Rattle.geo_kernel.proofs.Bounds.{seen_gap}
use Rattle.geo_kernel.proofs.Segments.{first_says, second_says}
use Rattle.geo_kernel.proofs.rect.beyond_along.Goals as goal

pub returns-then-is_beyond : goal.returns-then-is_beyond
returns-then-is_beyond c =
    first_says c.is_beyond.result
    (seen_gap c.args.a1 c.args.b0 c.args.k c.is_beyond.result c.ranges.a1 c.ranges.b0 c.is_beyond.ensures)
    c.if-is_beyond.true

pub returns-else-is_beyond : goal.returns-else-is_beyond
returns-else-is_beyond c =
    second_says c.is_beyond.result c.is_beyond-else-is_beyond.result
    (seen_gap c.args.a1 c.args.b0 c.args.k c.is_beyond.result c.ranges.a1 c.ranges.b0 c.is_beyond.ensures)
    c.if-is_beyond.false
    (seen_gap c.args.b1 c.args.a0 c.args.k c.is_beyond-else-is_beyond.result c.ranges.b1 c.ranges.a0
    c.is_beyond-else-is_beyond.ensures)
