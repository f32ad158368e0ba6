use Rattle.std.proofs.Common.{get_or}
use Rattle.cut_certificate.specs.inner.Checks.{HoldsNoneOf}
use Rattle.cut_certificate.proofs.Each.{each_more, each_true, each_false, unless}
use Rattle.cut_certificate.proofs.check.CutNodes.none_anchors_among.Goals as goal

pub loop-id-preserved : goal.loop-id-preserved
loop-id-preserved g c =
    each_more (HoldsNoneOf c.args.self.now.on c.args.self.now.nodes.now) c.args.ids.now
    c.loop-id.id-index 0 c.loop-id-test.true c.loop-id.invariant
    (c.none_anchors_of.ensures.0 c.if-not-none_anchors_of.false)

pub returns : goal.returns
returns g c =
    each_true (HoldsNoneOf c.args.self.now.on c.args.self.now.nodes.now) c.args.ids.now
    c.loop-id.id-index c.loop-id-test.false c.loop-id.invariant

pub returns-then-not-none_anchors_of : goal.returns-then-not-none_anchors_of
returns-then-not-none_anchors_of g c =
    each_false (HoldsNoneOf c.args.self.now.on c.args.self.now.nodes.now) c.args.ids.now
    c.loop-id.id-index 0 c.loop-id-test.true
    (unless c.none_anchors_of.result
    ((HoldsNoneOf c.args.self.now.on c.args.self.now.nodes.now)
    (get_or c.args.ids.now c.loop-id.id-index 0)) c.none_anchors_of.ensures c.if-not-none_anchors_of.true)
