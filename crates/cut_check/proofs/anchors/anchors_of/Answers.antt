use Rattle.std.proofs.Common.{List, subst, sym, ℕ}
use Rattle.route_lattice.specs.Anchors.{AreAnchorsAmong}
use Rattle.route_lattice.specs.Ground.{GroundOf}
use Rattle.cut_check.specs.inner.Outs.{AreAnchoredBelow}
use Rattle.cut_check.proofs.Anchoring.{anchored_all, anchored_more, anchored_none}
use Rattle.cut_check.proofs.anchors.anchors_of.Goals as goal

pub loop-island-init : goal.loop-island-init
loop-island-init g c =
    let on = c.args.on.now in
    subst (AreAnchoredBelow on.d on.lat on.items c.args.own.now 0) (sym c.new-anchors.ensures)
    (anchored_none on.d on.lat on.items c.args.own.now)

pub loop-island-preserved : goal.loop-island-preserved
loop-island-preserved g c =
    let on = c.args.on.now in
    let nodes = c.in_ok-anchors_among.field-0 in
    anchored_more on.d on.lat on.items c.args.own.now c.loop-island.island-index c.loop-island.anchors c.push.new.self
    nodes c.island-item.result c.loop-island-test.true c.island-item.is c.loop-island.invariant
    (subst (λ (s : GroundOf). AreAnchorsAmong s.d s.lat s.items c.island-item.result.items nodes) c.on.view_is
    (subst (λ (ids : List ℕ). AreAnchorsAmong c.on.inside.d.now c.on.inside.lat.now
    (g.C.Copper.items c.on.inside.c.now) ids nodes) c.as_slice.ensures c.in_ok-anchors_among.ensures))
    c.in_ok-push.ensures.ok

pub returns : goal.returns
returns g c =
    let on = c.args.on.now in
    anchored_all on.d on.lat on.items c.args.own.now c.loop-island.island-index c.loop-island.anchors
    c.loop-island.invariant c.loop-island-test.false c.loop-island.auto.island-index-end
