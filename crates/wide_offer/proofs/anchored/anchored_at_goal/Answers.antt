use Rattle.std.proofs.Common.{ℕ, List, subst}
use Rattle.route_lattice.specs.Anchors.{AnchorsAmong}
use Rattle.wide_offer.proofs.Anchoring.{others_more, not_among}
use Rattle.wide_offer.proofs.anchored.anchored_at_goal.Goals as goal

pub loop-other-preserved : goal.loop-other-preserved
loop-other-preserved g c =
    let items = c.args.on.now.items in
    others_more c.args.on.now.d c.args.on.now.lat items c.args.node c.args.others.now c.loop-other.other-index
    c.other-item.result c.other-item.result c.loop-other-test.true c.other-item.is c.loop-other.invariant
    (subst (λ (ids : List ℕ). AnchorsAmong c.args.on.now.d c.args.on.now.lat items ids c.args.node
    → ⊥) c.as_slice.ensures c.in_default.ensures)

pub unreachable-requires : goal.unreachable-requires
unreachable-requires g c = not_among c.args.on.now.d c.args.on.now.lat
    c.args.on.now.items c.args.node c.args.others.now c.loop-other.other-index c.loop-other-test.false
    c.loop-other.invariant c.requires
