use Rattle.std.proofs.Common.{◌<◌, All, ◌∙◌, sym, subst}
use Rattle.route_lattice.specs.Mesh.{node_count}
use Rattle.cut_certificate.specs.Past.{IsCutPast}
use Rattle.cut_certificate.specs.Same.{SameMoves}
use Rattle.cut_certificate.proofs.Same.{flipped, sound_same}
use Rattle.route_plan.specs.Plans.{moves_of}
use Rattle.route_plan.specs.Searches.{NetSearchOf}
use Rattle.route_plan.specs.Routes.{walks_of}
use Rattle.route_plan.proofs.Alike.{past_same}
use Rattle.route_plan.proofs.Leading.{not_led, starts_there}
use Rattle.route_plan.proofs.Searching.{count_is, moves_sound}
use Rattle.route_plan.proofs.route.NetSearch.may_lead_past.Goals as goal

pub may_lead_past-led-requires-clause-sound : goal.may_lead_past-led-requires-clause-sound
may_lead_past-led-requires-clause-sound g c =
    let s = c.self.inside in
    let a = g.M.Moves.graph s.moves.now in
    let b = moves_of s.d.now s.lat.now (g.C.Copper.items s.copper.now) s.island.now.net s.via_cost s.penalty in
    sound_same b a (flipped a b c.self.invariant.2.same)
    (moves_sound s.d.now s.lat.now (g.C.Copper.items s.copper.now) s.island.now.net s.via_cost s.penalty
    c.self.invariant.0 c.legal_graph_sound.ensures c.rip_graph_sound.ensures)

pub may_lead_past-led-requires-clause-cut : goal.may_lead_past-led-requires-clause-cut
may_lead_past-led-requires-clause-cut g c =
    let s = c.self.inside in
    let a = g.M.Moves.graph s.moves.now in
    let b = moves_of s.d.now s.lat.now (g.C.Copper.items s.copper.now) s.island.now.net s.via_cost s.penalty in
    past_same a b c.self.invariant.2.same c.args.cut.now c.args.id
    (subst (λ (y : NetSearchOf). IsCutPast (walks_of y) c.args.cut.now c.args.id) (sym c.self.view_is) c.requires)

pub may_lead_past-led-requires-clause-starts : goal.may_lead_past-led-requires-clause-starts
may_lead_past-led-requires-clause-starts g c =
    let s = c.self.inside in
    let starts = c.in_ok-starts.starts in
    let there = starts_there c.args.self.now starts c.in_ok-starts.ensures in
    subst (λ n. All (λ v. v < n) starts)
    (sym (c.self.invariant.2.same.count
    ∙ count_is s.d.now s.lat.now (g.C.Copper.items s.copper.now) s.island.now.net s.via_cost s.penalty))
    (subst (λ (y : NetSearchOf). All (λ v. v < node_count y.on.lat) starts) (sym c.self.view_is) there)

pub returns : goal.returns
returns g c =
    let a = g.M.Moves.graph c.self.inside.moves.now in
    let y = c.args.self.now in
    let same : SameMoves a (walks_of y) = subst (λ (z : NetSearchOf). SameMoves a (walks_of z)) c.self.view_is
    c.self.invariant.2.same in
    not_led y a c.in_ok-starts.starts c.in-Ok.goals c.may_lead_past-led.result same c.in_ok-starts.ensures
    c.in-Ok.ensures c.may_lead_past-led.ensures
