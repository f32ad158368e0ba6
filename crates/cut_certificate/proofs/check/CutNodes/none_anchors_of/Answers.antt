use Rattle.cut_certificate.specs.inner.Checks.{HoldsNone}
use Rattle.cut_certificate.proofs.Checking.{of_one, of_none}
use Rattle.cut_certificate.proofs.check.CutNodes.none_anchors_of.Goals as goal

pub returns-in-None : goal.returns-in-None
returns-in-None g c =
    of_none c.args.self.now.on.items c.in_order.ensures.ascends (HoldsNone c.args.self.now.on c.args.self.now.nodes.now)
    c.args.id c.in-None.ensures

pub returns-in-Some : goal.returns-in-Some
returns-in-Some g c =
    of_one c.args.self.now.on.items c.in_order.ensures.ascends (HoldsNone c.args.self.now.on c.args.self.now.nodes.now)
    c.args.id c.in-Some.item.now c.in-Some.ensures.0 c.in-Some.ensures.1 c.none_anchors.result c.none_anchors.ensures
