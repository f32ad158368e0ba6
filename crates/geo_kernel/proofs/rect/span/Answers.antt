use Rattle.geo_kernel.proofs.Growing.{span_ends, box_is_of}
use Rattle.geo_kernel.proofs.rect.span.Goals as goal

pub returns-clause-first : goal.returns-clause-first
returns-clause-first c = let w = c.widened.ensures in
    (span_ends c.box_at.result c.widened.result c.args.a c.args.b c.box_at.ensures
    (box_is_of _ _ _ _ _ _ _ _ w.x0 w.y0 w.x1 w.y1)).0

pub returns-clause-second : goal.returns-clause-second
returns-clause-second c = let w = c.widened.ensures in
    (span_ends c.box_at.result c.widened.result c.args.a c.args.b c.box_at.ensures
    (box_is_of _ _ _ _ _ _ _ _ w.x0 w.y0 w.x1 w.y1)).1
