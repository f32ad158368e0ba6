use Rattle.std.proofs.Common.{◌<◌, All, ◌∙◌, sym, subst}
use Rattle.route_lattice.specs.Mesh.{node_count}
use Rattle.route_lattice.specs.Walks.{Answers, NoneLeads}
use Rattle.route_lattice.specs.declared.moves.Found.TheVariants as found
use Rattle.cut_certificate.proofs.Same.{flipped, sound_same, reach_same}
use Rattle.route_plan.specs.Plans.{moves_of}
use Rattle.route_plan.specs.Searches.{NetSearchOf}
use Rattle.route_plan.specs.Routes.{walks_of}
use Rattle.route_plan.proofs.Searching.{count_is, moves_sound}
use Rattle.route_plan.proofs.route.NetSearch.closed.Goals as goal

pub flood-requires-clause-sound : goal.flood-requires-clause-sound
flood-requires-clause-sound g c =
    let s = c.self.inside in
    let a = g.M.Moves.graph s.moves.now in
    let b = moves_of s.d.now s.lat.now (g.C.Copper.items s.copper.now) s.island.now.net s.via_cost s.penalty in
    sound_same b a (flipped a b c.self.invariant.2.same)
    (moves_sound s.d.now s.lat.now (g.C.Copper.items s.copper.now) s.island.now.net s.via_cost s.penalty
    c.self.invariant.0 c.legal_graph_sound.ensures c.rip_graph_sound.ensures)

pub flood-requires-clause-starts : goal.flood-requires-clause-starts
flood-requires-clause-starts g c =
    let s = c.self.inside in
    let starts = subst (λ (y : NetSearchOf). All (λ v. v < node_count y.on.lat) c.args.starts.now) (sym c.self.view_is)
    c.requires.starts in
    subst (λ n. All (λ v. v < n) c.args.starts.now)
    (sym (c.self.invariant.2.same.count
    ∙ count_is s.d.now s.lat.now (g.C.Copper.items s.copper.now) s.island.now.net s.via_cost s.penalty)) starts

pub returns : goal.returns
returns g c =
    let s = c.self.inside in
    let a = g.M.Moves.graph s.moves.now in
    let b = moves_of s.d.now s.lat.now (g.C.Copper.items s.copper.now) s.island.now.net s.via_cost s.penalty in
    let reach = reach_same a b c.self.invariant.2.same c.args.starts.now c.in_ok-reach.reach.nodes
    c.in_ok-reach.ensures in
    subst (λ (y : NetSearchOf). Answers (walks_of y) c.args.starts.now c.args.goals.now
    (found.Closed c.in_ok-reach.reach)) (c.self.view_is) (
      subst (λ (y : NetSearchOf). NoneLeads (walks_of y) c.args.starts.now c.args.goals.now) (sym c.self.view_is)
          c.requires.none,
      reach,
    )
