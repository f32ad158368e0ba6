use Rattle.std.proofs.Common.{ℕ, List, All, get_or, subst}
use Rattle.std.specs.Prelude.{IsTrue, ◌↔◌}
use Rattle.pcb_islands.specs.declared.net.Island.{Island}
use Rattle.cut_certificate.specs.inner.Checks.{HoldsNoneOf, HoldsNoneOfIsland}
use Rattle.cut_certificate.proofs.Each.{each_more, each_true, each_false, unless}
use Rattle.cut_certificate.proofs.check.CutNodes.islands_out.Goals as goal

pub loop-other-preserved : goal.loop-other-preserved
loop-other-preserved g c =
    each_more (HoldsNoneOfIsland c.args.self.now.on c.args.self.now.nodes.now)
    c.args.others.now c.loop-other.other-index c.other-item.result c.loop-other-test.true c.loop-other.invariant
    (subst (HoldsNoneOfIsland c.args.self.now.on c.args.self.now.nodes.now)
    c.other-item.is
    (subst (All (HoldsNoneOf c.args.self.now.on c.args.self.now.nodes.now))
    c.as_slice.ensures (c.none_anchors_among.ensures.0 c.if-not-none_anchors_among.false)))

pub returns : goal.returns
returns g c = each_true (HoldsNoneOfIsland c.args.self.now.on c.args.self.now.nodes.now)
    c.args.others.now c.loop-other.other-index c.loop-other-test.false c.loop-other.invariant

pub returns-then-not-none_anchors_among : goal.returns-then-not-none_anchors_among
returns-then-not-none_anchors_among g c =
    let says : IsTrue c.none_anchors_among.result
    ↔ HoldsNoneOfIsland c.args.self.now.on c.args.self.now.nodes.now
    c.other-item.result =
    subst (λ (ids : List ℕ). IsTrue c.none_anchors_among.result
    ↔ All (HoldsNoneOf c.args.self.now.on c.args.self.now.nodes.now) ids)
    c.as_slice.ensures c.none_anchors_among.ensures in
    each_false (HoldsNoneOfIsland c.args.self.now.on c.args.self.now.nodes.now)
    c.args.others.now c.loop-other.other-index c.other-item.result c.loop-other-test.true
    (unless c.none_anchors_among.result
    (HoldsNoneOfIsland c.args.self.now.on c.args.self.now.nodes.now
    (get_or c.args.others.now c.loop-other.other-index c.other-item.result))
    (subst (λ (o : Island). IsTrue c.none_anchors_among.result
    ↔ HoldsNoneOfIsland c.args.self.now.on c.args.self.now.nodes.now o)
    c.other-item.is says) c.if-not-none_anchors_among.true)
