use Rattle.geo_kernel.proofs.Segments.{first_says, second_says}
use Rattle.geo_kernel.proofs.segment.Segment.ends_touch.Goals as goal

pub returns-then-touches_end : goal.returns-then-touches_end
returns-then-touches_end c = first_says c.touches_end.result c.touches_end.ensures c.if-touches_end.true

pub returns-else-touches_end : goal.returns-else-touches_end
returns-else-touches_end c =
    second_says c.touches_end.result c.touches_end-else-touches_end.result c.touches_end.ensures
    c.if-touches_end.false c.touches_end-else-touches_end.ensures
