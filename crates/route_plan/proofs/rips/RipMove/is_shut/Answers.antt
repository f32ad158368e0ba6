use Rattle.std.proofs.Common.{◌<◌, arith, sym, subst}
use Rattle.std.specs.Bool.{OnTrue}
use Rattle.std.proofs.lemmas.Bool.{OnTrue_from}
use Rattle.route_lattice.specs.Legal.{IsOpen, probe_at}
use Rattle.move_maps.specs.Maps.{IsTally}
use Rattle.move_maps.specs.Windows.{IsOutOfAll}
use Rattle.move_maps.proofs.Foreign.{on_then}
use Rattle.route_plan.specs.inner.RipMove.{RipMoveOf}
use Rattle.route_plan.proofs.Telling.{fixed_shut}
use Rattle.route_plan.proofs.rips.RipMove.is_shut.Goals as goal

pub returns : goal.returns
returns g c =
    let s = c.self.inside.moves.now in
    let t = s.by_map.legal in
    let node = c.self.inside.node in
    let i = c.self.inside.i in
    let few : c.args.fixed < 255 = omega (arith, c.ranges.fixed, c.if-fixed-eq255.false) in
    let told = subst (λ (y : RipMoveOf). IsTally y.d y.first y.d.fixed (probe_at y.d y.lat y.first y.node y.i)
    c.args.fixed) (sym c.self.view_is) c.requires.tally in
    subst (λ (y : RipMoveOf). OnTrue c.is_off.result
    (¬ (IsOpen y.d y.d.fixed y.net (probe_at y.d y.lat y.net y.node y.i)))) c.self.view_is
    (on_then c.is_off.result (IsOutOfAll t.lat.now s.own node)
    (¬ (IsOpen t.d.now t.d.now.fixed t.net (probe_at t.d.now t.lat.now t.net node i)))
    (fixed_shut t.d.now t.lat.now (g.C.Copper.items t.c.now) t.net s.by_map.map.now c.self.inside.fixed.now s.own
    c.self.invariant.2 c.self.invariant.0.rip.can_move.sound
    (g.met.C.Copper.serving t.c.now t.d.now c.self.invariant.1) node i c.self.invariant.0.node_there
    c.self.invariant.0.index_there c.args.fixed few c.requires.counted told)
    (OnTrue_from c.is_off.result _ c.is_off.ensures.0))
