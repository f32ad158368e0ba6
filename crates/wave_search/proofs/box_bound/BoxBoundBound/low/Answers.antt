use Rattle.std.proofs.Common.{◌^◌, subst, ◌∙◌, sym, arith}
use Rattle.geo_kernel.specs.Plane.{IsWithin}
use Rattle.wave_search.specs.Around.{way_to_nearest}
use Rattle.wave_search.proofs.Around.{point_within, low_is, low_out}
use Rattle.wave_search.proofs.box_bound.BoxBoundBound.low.Goals as goal

pub returns-then-node-count : goal.returns-then-node-count
returns-then-node-count c = c.nearest_way.ensures ∙ (λ k. way_to_nearest (c.as_slice.ensures k) (c.point.ensures k))
    ∙ sym (low_is c.args.self.now.lat.now c.args.self.now.boxes c.args.node (omega arith))

pub returns-else-node-count : goal.returns-else-node-count
returns-else-node-count c = sym (low_out c.args.self.now.lat.now c.args.self.now.boxes c.args.node (omega arith))

pub nearest_way-requires-clause-p : goal.nearest_way-requires-clause-p
nearest_way-requires-clause-p c = subst (IsWithin (2 ^ 29)) (sym c.point.ensures)
    (point_within c.args.self.now.lat.now c.args.node c.args.self.now.lines_within
    (omega (arith, c.if-node-count.true, c.count.ensures.nodes)))
