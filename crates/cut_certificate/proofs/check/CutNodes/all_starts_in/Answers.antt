use Rattle.std.proofs.Common.{get_or}
use Rattle.cut_certificate.specs.inner.Checks.{HoldsStartsOf}
use Rattle.cut_certificate.proofs.Each.{each_more, each_true, each_false, unless}
use Rattle.cut_certificate.proofs.check.CutNodes.all_starts_in.Goals as goal

pub loop-id-preserved : goal.loop-id-preserved
loop-id-preserved g c =
    each_more (HoldsStartsOf c.args.self.now.on c.args.self.now.net c.args.self.now.nodes.now)
    c.args.ids.now c.loop-id.id-index 0 c.loop-id-test.true c.loop-id.invariant
    (c.starts_of_in.ensures.0 c.if-not-starts_of_in.false)

pub returns : goal.returns
returns g c =
    each_true (HoldsStartsOf c.args.self.now.on c.args.self.now.net c.args.self.now.nodes.now)
    c.args.ids.now c.loop-id.id-index c.loop-id-test.false c.loop-id.invariant

pub returns-then-not-starts_of_in : goal.returns-then-not-starts_of_in
returns-then-not-starts_of_in g c =
    each_false (HoldsStartsOf c.args.self.now.on c.args.self.now.net c.args.self.now.nodes.now)
    c.args.ids.now c.loop-id.id-index 0 c.loop-id-test.true
    (unless c.starts_of_in.result
    ((HoldsStartsOf c.args.self.now.on c.args.self.now.net c.args.self.now.nodes.now)
    (get_or c.args.ids.now c.loop-id.id-index 0)) c.starts_of_in.ensures c.if-not-starts_of_in.true)
