use Rattle.std.proofs.Common.{◌∙◌, subst}
use Rattle.move_maps.specs.Maps.{IsTally}
use Rattle.move_maps.proofs.Tallies.{within, place}
use Rattle.route_lattice.specs.Legal.{probe_at}
use Rattle.route_plan.specs.inner.RipMove.{RipMoveOf}
use Rattle.route_plan.proofs.Tallied.{tally_at}
use Rattle.route_plan.proofs.rips.RipMove.tally.Goals as goal

pub get-requires : goal.get-requires
get-requires g c =
    let s = c.self.inside.moves.now.by_map in
    let t = s.legal in
    within t.d.now t.lat.now (g.C.Copper.items t.c.now) s.map.now t.net t.arity c.self.inside.node c.self.inside.i
    c.self.invariant.2.map_is c.self.invariant.2.alike t.arity_is c.self.invariant.0.node_there
    c.self.invariant.0.index_there

pub returns : goal.returns
returns g c =
    let s = c.self.inside.moves.now.by_map in
    let t = s.legal in
    let items = g.C.Copper.items t.c.now in
    let node = c.self.inside.node in
    let i = c.self.inside.i in
    let maps = c.self.invariant.2 in
    subst (λ (y : RipMoveOf). IsTally y.d y.first y.items (probe_at y.d y.lat y.first y.node y.i) c.get.result)
    c.self.view_is
    (tally_at t.d.now t.lat.now items s.map.now t.net node i c.get.result maps.map_is
    maps.alike c.self.invariant.0.node_there c.self.invariant.0.index_there
    (c.get.ensures ∙ place t.d.now t.lat.now items s.map.now t.net t.arity node i maps.map_is maps.alike t.arity_is))
