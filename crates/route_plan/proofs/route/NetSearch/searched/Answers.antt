use Rattle.std.proofs.Common.{◌≡◌, ◌<◌, All, ◌∙◌, sym, subst}
use Rattle.std.specs.Prelude.{IfOk}
use Rattle.route_lattice.specs.Mesh.{Mesh, node_count}
use Rattle.route_lattice.specs.Walks.{Answers}
use Rattle.wave_search.specs.Around.{low_at}
use Rattle.wave_search.specs.Bounds.{IsBound}
use Rattle.cut_certificate.proofs.Same.{flipped, sound_same}
use Rattle.route_plan.specs.Plans.{moves_of}
use Rattle.route_plan.specs.Searches.{NetSearchOf}
use Rattle.route_plan.specs.Routes.{walks_of}
use Rattle.route_plan.proofs.Alike.{bound_same, ok_same}
use Rattle.route_plan.proofs.Searching.{count_is, moves_sound, moves_bound}
use Rattle.route_plan.proofs.route.NetSearch.searched.Goals as goal

pub of-requires : goal.of-requires
of-requires g c = record { xs = c.self.invariant.0.move.fits.xs_within; ys = c.self.invariant.0.move.fits.ys_within }

pub tied_walk-requires-clause-size : goal.tied_walk-requires-clause-size
tied_walk-requires-clause-size g c =
    let s = c.self.inside in
    let items = g.C.Copper.items s.copper.now in
    subst (λ (y : NetSearchOf). c.args.search.now ≡ node_count y.on.lat) (sym c.self.view_is) c.requires.size
    ∙ sym (count_is s.d.now s.lat.now items s.island.now.net s.via_cost s.penalty)
    ∙ sym c.self.invariant.2.same.count

pub tied_walk-requires-clause-sound : goal.tied_walk-requires-clause-sound
tied_walk-requires-clause-sound g c =
    let s = c.self.inside in
    let items = g.C.Copper.items s.copper.now in
    let a = g.M.Moves.graph s.moves.now in
    let b = moves_of s.d.now s.lat.now items s.island.now.net s.via_cost s.penalty in
    sound_same b a (flipped a b c.self.invariant.2.same)
    (moves_sound s.d.now s.lat.now items s.island.now.net s.via_cost s.penalty c.self.invariant.0
    c.legal_graph_sound.ensures c.rip_graph_sound.ensures)

pub tied_walk-requires-clause-bound : goal.tied_walk-requires-clause-bound
tied_walk-requires-clause-bound g c =
    let s = c.self.inside in
    let items = g.C.Copper.items s.copper.now in
    let a = g.M.Moves.graph s.moves.now in
    let b = moves_of s.d.now s.lat.now items s.island.now.net s.via_cost s.penalty in
    let boxes = c.in_ok-bound.bound.boxes in
    let law = moves_bound s.d.now s.lat.now items s.island.now.net s.via_cost s.penalty c.args.goals.now boxes
    c.self.invariant.0 c.box_bound_sound.ensures c.rip_bound_sound.ensures c.in_ok-bound.ensures.around in
    let by_lattice = subst (λ (m : Mesh). IsBound b c.args.goals.now (low_at m boxes)) (sym c.in_ok-bound.ensures.lat)
    law in
    bound_same b a (flipped a b c.self.invariant.2.same) c.args.goals.now (low_at c.in_ok-bound.bound.lat.now boxes)
    by_lattice

pub tied_walk-requires-clause-starts : goal.tied_walk-requires-clause-starts
tied_walk-requires-clause-starts g c =
    let s = c.self.inside in
    let items = g.C.Copper.items s.copper.now in
    subst (λ n. All (λ v. v < n) c.args.starts.now)
    (sym (c.self.invariant.2.same.count
    ∙ count_is s.d.now s.lat.now items s.island.now.net s.via_cost s.penalty))
    (subst (λ (y : NetSearchOf). All (λ v. v < node_count y.on.lat) c.args.starts.now) (sym c.self.view_is)
    c.requires.starts)

pub returns-clause-answers : goal.returns-clause-answers
returns-clause-answers g c =
    let s = c.self.inside in
    let items = g.C.Copper.items s.copper.now in
    subst (λ (y : NetSearchOf). IfOk c.tied_walk.result (Answers (walks_of y) c.args.starts.now c.args.goals.now))
    c.self.view_is
    (ok_same (g.M.Moves.graph s.moves.now)
    (moves_of s.d.now s.lat.now items s.island.now.net s.via_cost s.penalty)
    c.self.invariant.2.same c.args.starts.now c.args.goals.now c.tied_walk.result c.tied_walk.ensures.answers)
