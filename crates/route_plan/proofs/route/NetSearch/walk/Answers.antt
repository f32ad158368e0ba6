use Rattle.std.proofs.Common.{◌<◌, ℕ, List, All, ◌∙◌, sym, subst, true≢false}
use Rattle.std.specs.List.Sorted.{IsStrictlyIncreasing}
use Rattle.route_lattice.specs.Mesh.{node_count}
use Rattle.route_lattice.specs.Walks.{Answers, IsReach}
use Rattle.route_lattice.specs.declared.moves.Found.TheVariants as found
use Rattle.cut_certificate.specs.Goals.{Meets}
use Rattle.cut_certificate.proofs.Flooding.{reach_tells}
use Rattle.cut_certificate.proofs.Same.{flipped, sound_same, reach_same}
use Rattle.route_plan.specs.Plans.{moves_of}
use Rattle.route_plan.specs.Searches.{NetSearchOf}
use Rattle.route_plan.specs.Routes.{walks_of}
use Rattle.route_plan.proofs.Searching.{count_is, moves_sound}
use Rattle.route_plan.proofs.route.NetSearch.walk.Goals as goal

pub flood-requires-clause-sound : goal.flood-requires-clause-sound
flood-requires-clause-sound g c =
    let s = c.self.inside in
    let a = g.M.Moves.graph s.moves.now in
    let b = moves_of s.d.now s.lat.now (g.C.Copper.items s.copper.now) s.island.now.net s.via_cost s.penalty in
    sound_same b a (flipped a b c.self.invariant.2.same)
    (moves_sound s.d.now s.lat.now (g.C.Copper.items s.copper.now) s.island.now.net s.via_cost s.penalty
    c.self.invariant.0 c.legal_graph_sound.ensures c.rip_graph_sound.ensures)

pub flood-requires-clause-starts : goal.flood-requires-clause-starts
flood-requires-clause-starts g c =
    let s = c.self.inside in
    let starts = subst (λ (y : NetSearchOf). All (λ v. v < node_count y.on.lat) c.args.starts.now) (sym c.self.view_is)
    c.requires.starts in
    subst (λ n. All (λ v. v < n) c.args.starts.now)
    (sym (c.self.invariant.2.same.count
    ∙ count_is s.d.now s.lat.now (g.C.Copper.items s.copper.now) s.island.now.net s.via_cost s.penalty)) starts

pub meets-requires : goal.meets-requires
meets-requires g c = subst IsStrictlyIncreasing (sym c.as_slice.ensures) c.in_ok-reach.ensures.ascends

pub returns-then-not-meets-clause-answers : goal.returns-then-not-meets-clause-answers
returns-then-not-meets-clause-answers g c =
    let s = c.self.inside in
    let a = g.M.Moves.graph s.moves.now in
    let b = moves_of s.d.now s.lat.now (g.C.Copper.items s.copper.now) s.island.now.net s.via_cost s.penalty in
    let starts = c.args.starts.now in
    let goals = c.args.goals.now in
    let nodes = c.in_ok-reach.reach.nodes in
    let reach : IsReach b starts nodes = reach_same a b c.self.invariant.2.same starts nodes c.in_ok-reach.ensures in
    let none : Meets nodes goals → ⊥ = λ m. true≢false (sym (c.meets.ensures.1
    (subst (λ (y : List ℕ × List ℕ). Meets y.0 y.1) (λ i. (sym c.as_slice.ensures i, sym c.as_slice-2.ensures i)) m))
    ∙ c.if-not-meets.true) in
    subst (λ (y : NetSearchOf). Answers (walks_of y) starts goals (found.Closed c.in_ok-reach.reach)) c.self.view_is
    ((reach_tells b starts goals nodes reach).missed none, reach)
