use Rattle.geo_kernel.proofs.Segments.{first_says, second_says}
use Rattle.geo_kernel.proofs.segment.Segment.touches_end.Goals as goal

pub returns-then-touches_point : goal.returns-then-touches_point
returns-then-touches_point c = first_says c.touches_point.result c.touches_point.ensures c.if-touches_point.true

pub returns-else-touches_point : goal.returns-else-touches_point
returns-else-touches_point c =
    second_says c.touches_point.result c.touches_point-else-touches_point.result c.touches_point.ensures
    c.if-touches_point.false c.touches_point-else-touches_point.ensures
