use Rattle.std.proofs.Common.{◌<◌, ◌∙◌, All, sym, subst}
use Rattle.std.specs.Prelude.{IfOk}
use Rattle.std.specs.Bool.{OnTrue}
use Rattle.route_lattice.specs.Mesh.{node_count}
use Rattle.route_lattice.specs.Walks.{NoneLeads}
use Rattle.cut_certificate.proofs.Same.{flipped, sound_same}
use Rattle.route_plan.specs.Plans.{moves_of}
use Rattle.route_plan.specs.Searches.{NetSearchOf}
use Rattle.route_plan.specs.Routes.{walks_of}
use Rattle.route_plan.proofs.Searching.{count_is, moves_sound, moves_back}
use Rattle.route_plan.proofs.Alike.{mutual_same, shut_same}
use Rattle.route_plan.proofs.route.NetSearch.is_shut_in.Goals as goal

pub are_shut_in-requires-clause-sound : goal.are_shut_in-requires-clause-sound
are_shut_in-requires-clause-sound g c =
    let s = c.self.inside in
    let a = g.M.Moves.graph s.moves.now in
    let b = moves_of s.d.now s.lat.now (g.C.Copper.items s.copper.now) s.island.now.net s.via_cost s.penalty in
    sound_same b a (flipped a b c.self.invariant.2.same)
    (moves_sound s.d.now s.lat.now (g.C.Copper.items s.copper.now) s.island.now.net s.via_cost s.penalty
    c.self.invariant.0 c.legal_graph_sound.ensures c.rip_graph_sound.ensures)

pub are_shut_in-requires-clause-starts : goal.are_shut_in-requires-clause-starts
are_shut_in-requires-clause-starts g c =
    let s = c.self.inside in
    let starts = subst (λ (y : NetSearchOf). All (λ v. v < node_count y.on.lat) c.args.starts.now) (sym c.self.view_is)
    c.requires in
    subst (λ n. All (λ v. v < n) c.args.starts.now)
    (sym (c.self.invariant.2.same.count
    ∙ count_is s.d.now s.lat.now (g.C.Copper.items s.copper.now) s.island.now.net s.via_cost s.penalty)) starts

pub are_shut_in-requires-clause-turns : goal.are_shut_in-requires-clause-turns
are_shut_in-requires-clause-turns g c =
    let s = c.self.inside in
    mutual_same (g.M.Moves.graph s.moves.now)
    (moves_of s.d.now s.lat.now (g.C.Copper.items s.copper.now) s.island.now.net s.via_cost s.penalty)
    c.self.invariant.2.same
    (moves_back s.d.now s.lat.now (g.C.Copper.items s.copper.now) s.island.now.net s.via_cost s.penalty
    c.legal_moves_lead_back.ensures)

pub returns : goal.returns
returns g c =
    let s = c.self.inside in
    let b = moves_of s.d.now s.lat.now (g.C.Copper.items s.copper.now) s.island.now.net s.via_cost s.penalty in
    subst (λ (y : NetSearchOf). IfOk c.are_shut_in.result
    (λ shut. OnTrue shut (NoneLeads (walks_of y) c.args.starts.now c.args.goals.now))) c.self.view_is
    (shut_same (g.M.Moves.graph s.moves.now) b c.self.invariant.2.same c.args.starts.now c.args.goals.now
    c.are_shut_in.result c.are_shut_in.ensures)
