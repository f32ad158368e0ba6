use Rattle.std.proofs.Common.{◌∙◌, sym, subst}
use Rattle.move_maps.specs.Maps.{IsTally}
use Rattle.move_maps.proofs.Tallies.{within, place}
use Rattle.route_lattice.specs.Legal.{probe_at}
use Rattle.route_plan.specs.inner.RipMove.{RipMoveOf}
use Rattle.route_plan.proofs.Tallied.{tally_at, other_tally}
use Rattle.route_plan.proofs.Telling.{none_fixed}
use Rattle.route_plan.proofs.rips.RipMove.fixed_tally.Goals as goal

pub get-requires : goal.get-requires
get-requires g c =
    let t = c.self.inside.moves.now.by_map.legal in
    within t.d.now t.lat.now t.d.now.fixed c.self.inside.fixed.now t.net t.arity c.self.inside.node c.self.inside.i
    c.self.invariant.2.fixed_is c.self.invariant.2.fixed_alike t.arity_is c.self.invariant.0.node_there
    c.self.invariant.0.index_there

pub returns-then-all-eq0 : goal.returns-then-all-eq0
returns-then-all-eq0 g c =
    let s = c.self.inside.moves.now.by_map in
    let t = s.legal in
    let first = s.map.now.first in
    let told = subst (λ (y : RipMoveOf). IsTally y.d y.first y.items (probe_at y.d y.lat y.first y.node y.i)
    c.tally-all.result) (sym c.self.view_is) c.tally-all.ensures in
    subst (λ (y : RipMoveOf). IsTally y.d y.first y.d.fixed (probe_at y.d y.lat y.first y.node y.i) 0) c.self.view_is
    (none_fixed t.d.now (g.C.Copper.items t.c.now) first c.tally-all.result
    (probe_at t.d.now t.lat.now first c.self.inside.node c.self.inside.i)
    (g.met.C.Copper.serving t.c.now t.d.now c.self.invariant.1) c.if-all-eq0.true told)

pub returns : goal.returns
returns g c =
    let s = c.self.inside.moves.now.by_map in
    let t = s.legal in
    let fixed = c.self.inside.fixed.now in
    let node = c.self.inside.node in
    let i = c.self.inside.i in
    let maps = c.self.invariant.2 in
    subst (λ (y : RipMoveOf). IsTally y.d y.first y.d.fixed (probe_at y.d y.lat y.first y.node y.i) c.get.result)
    c.self.view_is
    (other_tally t.d.now t.lat.now t.d.now.fixed fixed.first s.map.now.first t.net node i c.get.result
    maps.fixed_alike maps.alike
    (tally_at t.d.now t.lat.now t.d.now.fixed fixed t.net node i c.get.result maps.fixed_is
    maps.fixed_alike c.self.invariant.0.node_there c.self.invariant.0.index_there
    (c.get.ensures ∙ place t.d.now t.lat.now t.d.now.fixed fixed t.net t.arity node i maps.fixed_is maps.fixed_alike
    t.arity_is)))
