use Rattle.geo_kernel.proofs.Segments.{touches_by_nearest, then_also}
use Rattle.geo_kernel.proofs.segment.Segment.touches_point.Goals as goal

pub returns : goal.returns
returns c = then_also c.is_at_most.ensures
    (touches_by_nearest c.args.p.at c.args.self.from.at c.args.self.to.at c.args.k.value _ _ c.nearest.ensures)
