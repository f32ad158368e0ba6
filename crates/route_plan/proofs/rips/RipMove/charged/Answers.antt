use Rattle.std.proofs.Common.{◌∙◌, sym, ap, subst}
use Rattle.std.specs.Prelude.{min}
use Rattle.route_lattice.specs.Legal.{probe_at}
use Rattle.ripup.specs.Rips.{IsCharged}
use Rattle.move_maps.specs.Maps.{IsTally}
use Rattle.move_maps.specs.Windows.{IsOutOfAll}
use Rattle.route_plan.specs.inner.RipMove.{RipMoveOf}
use Rattle.route_plan.proofs.Telling.{same_here, off_here}
use Rattle.route_plan.proofs.rips.RipMove.charged.Goals as goal

pub returns-then-all-fixed-clause-counted : goal.returns-then-all-fixed-clause-counted
returns-then-all-fixed-clause-counted g c =
    let s = c.self.inside.moves.now in
    let t = s.by_map.legal in
    let all = subst (λ (y : RipMoveOf). IsTally y.d y.first y.items (probe_at y.d y.lat y.first y.node y.i)
    c.tally-all.result) (sym c.self.view_is) c.tally-all.ensures in
    let fixed = subst (λ (y : RipMoveOf). IsTally y.d y.first y.d.fixed (probe_at y.d y.lat y.first y.node y.i)
    c.fixed_tally-fixed.result) (sym c.self.view_is) c.fixed_tally-fixed.ensures in
    subst (λ (y : RipMoveOf). IsCharged y.d y.items y.net (probe_at y.d y.lat y.net y.node y.i) 0) c.self.view_is
    (same_here t.d.now t.lat.now (g.C.Copper.items t.c.now) t.net s.by_map.map.now c.self.inside.fixed.now s.own
    c.self.invariant.2 c.self.invariant.0.rip.can_move.sound
    (g.met.C.Copper.serving t.c.now t.d.now c.self.invariant.1) c.self.inside.node c.self.inside.i
    c.self.invariant.0.node_there c.self.invariant.0.index_there c.tally-all.result c.fixed_tally-fixed.result
    c.if-all.false c.if-fixed.false c.if-all-fixed.true all fixed)

pub returns-clause-counted : goal.returns-clause-counted
returns-clause-counted g c =
    let s = c.self.inside.moves.now in
    let t = s.by_map.legal in
    let items = g.C.Copper.items t.c.now in
    let node = c.self.inside.node in
    let i = c.self.inside.i in
    let out : IsOutOfAll t.lat.now s.own node = c.is_off.ensures.0 c.if-not-is_off.false in
    let all = subst (λ (y : RipMoveOf). IsTally y.d y.first y.items (probe_at y.d y.lat y.first y.node y.i)
    c.tally-all.result) (sym c.self.view_is) c.tally-all.ensures in
    let fixed = subst (λ (y : RipMoveOf). IsTally y.d y.first y.d.fixed (probe_at y.d y.lat y.first y.node y.i)
    c.fixed_tally-fixed.result) (sym c.self.view_is) c.fixed_tally-fixed.ensures in
    subst (λ (y : RipMoveOf). IsCharged y.d y.items y.net (probe_at y.d y.lat y.net y.node y.i)
    c.at_most_charged.result) c.self.view_is
    (subst (IsCharged t.d.now items t.net (probe_at t.d.now t.lat.now t.net node i))
    (sym (c.at_most_charged.ensures ∙ ap (λ n. min n 16) c.saturating_sub.ensures))
    (off_here t.d.now t.lat.now items t.net s.by_map.map.now c.self.inside.fixed.now s.own
    c.self.invariant.2 c.self.invariant.0.rip.can_move.sound
    (g.met.C.Copper.serving t.c.now t.d.now c.self.invariant.1) node i c.self.invariant.0.node_there
    c.self.invariant.0.index_there c.tally-all.result c.fixed_tally-fixed.result c.if-all.false c.if-fixed.false out
    all fixed))
