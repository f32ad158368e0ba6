use Rattle.std.proofs.Common.{ℕ, ◌<◌, All, List, sym, subst}
use Rattle.std.specs.Prelude.{IfOk}
use Rattle.pcb_model.specs.declared.item.Item.{Item}
use Rattle.pcb_model.specs.declared.design.Design.{Design}
use Rattle.route_lattice.specs.Mesh.{Mesh, node_count}
use Rattle.route_lattice.specs.Walks.{IsSound as IsGraphSound, Answers}
use Rattle.path_wire.specs.Diagonals.{wide_graph}
use Rattle.wave_search.specs.Around.{low_at}
use Rattle.wave_search.specs.Bounds.{IsBound}
use Rattle.diag_moves.specs.Bounds.{shorter}
use Rattle.wide_offer.proofs.search.WideSearch.walk.Goals as goal

abbrev Parts : Type 0
Parts = Design × Mesh × List Item × ℕ × ℕ

pub of-requires : goal.of-requires
of-requires g c = record { xs = c.requires.can_move.fits.xs_within; ys = c.requires.can_move.fits.ys_within }

pub guided_walk-requires-clause-sound : goal.guided_walk-requires-clause-sound
guided_walk-requires-clause-sound g c =
    let e = c.of-moves.ensures in
    subst (λ (t : Parts). IsGraphSound (wide_graph t.0 t.1 t.2 t.3 t.4))
    (λ i. (sym e.d i, sym e.lat i, g.C.Copper.items (sym e.c i), sym e.net i, sym e.via_cost i))
    (c.wide_graph_sound.ensures c.args.self.now.d.now c.args.self.now.lat.now
    (g.C.Copper.items c.args.self.now.copper.now) c.args.net
    c.args.self.now.via_cost c.requires.can_move)

pub guided_walk-requires-clause-bound : goal.guided_walk-requires-clause-bound
guided_walk-requires-clause-bound g c =
    let e = c.of-moves.ensures in
    let boxes = c.in_ok-bound.bound.boxes.boxes in
    subst (λ (t : Parts). IsBound (wide_graph t.0 t.1 t.2 t.3 t.4) c.args.goals.now
    (λ v. shorter (low_at c.in_ok-bound.bound.boxes.lat.now boxes v)))
    (λ i. (sym e.d i, sym e.lat i, g.C.Copper.items (sym e.c i), sym e.net i, sym e.via_cost i))
    (subst (λ (m : Mesh). IsBound (wide_graph c.args.self.now.d.now c.args.self.now.lat.now
    (g.C.Copper.items c.args.self.now.copper.now) c.args.net
    c.args.self.now.via_cost) c.args.goals.now (λ v. shorter (low_at m boxes v))) (sym c.in_ok-bound.ensures.lat)
    (c.diag_bound_sound.ensures c.args.self.now.d.now c.args.self.now.lat.now
    (g.C.Copper.items c.args.self.now.copper.now) c.args.net
    c.args.self.now.via_cost c.args.goals.now boxes c.requires.can_move c.in_ok-bound.ensures.around))

pub guided_walk-requires-clause-starts : goal.guided_walk-requires-clause-starts
guided_walk-requires-clause-starts g c =
    subst (λ (m : Mesh). All (λ v. v < node_count m) c.args.starts.now) (sym c.of-moves.ensures.lat) c.requires.starts

pub returns : goal.returns
returns g c =
    let e = c.of-moves.ensures in
    subst (λ (t : Parts). IfOk c.guided_walk.result
    (Answers (wide_graph t.0 t.1 t.2 t.3 t.4) c.args.starts.now c.args.goals.now))
    (λ i. (e.d i, e.lat i, g.C.Copper.items (e.c i), e.net i, e.via_cost i)) c.guided_walk.ensures
