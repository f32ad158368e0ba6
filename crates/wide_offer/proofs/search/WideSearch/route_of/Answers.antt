use Rattle.std.proofs.Common.{ℕ, ◌<◌, List, arith, sym, ◌∙◌, subst}
use Rattle.pcb_islands.specs.declared.net.Island.{Island}
use Rattle.route_lattice.specs.Mesh.{node_count}
use Rattle.cut_certificate.specs.Cuts.{IsGoal}
use Rattle.wide_offer.specs.inner.Routes.{IsAnchored, IsAnchoredIn}
use Rattle.wide_offer.proofs.Places.{last_place, first_place, some_node}
use Rattle.wide_offer.proofs.Routing.{goes}
use Rattle.wide_offer.proofs.search.WideSearch.route_of.Goals as goal

pub anchored_among-requires : goal.anchored_among-requires
anchored_among-requires g c =
    let s = c.args.self.now in
    let w = goes s.d.now s.lat.now (g.C.Copper.items s.copper.now) s.via_cost c.args.island.now c.args.others.now
    c.args.walk c.requires.can_move.fits c.requires.leads in
    subst (λ (n : ℕ). n < node_count s.lat.now)
    (sym (first_place c.as_slice-nodes.result.now w.start w.rest 0 (c.as_slice-nodes.ensures ∙ w.nodes_are)))
    w.start_there

pub anchored_at_goal-to-requires : goal.anchored_at_goal-to-requires
anchored_at_goal-to-requires g c =
    let s = c.args.self.now in
    let items = g.C.Copper.items s.copper.now in
    let w = goes s.d.now s.lat.now items s.via_cost c.args.island.now c.args.others.now
    c.args.walk c.requires.can_move.fits c.requires.leads in
    let node_is = last_place c.as_slice-nodes.result.now w.start w.rest 0 (c.as_slice-nodes.ensures ∙ w.nodes_are) in
    subst (λ (p : List Island × ℕ). IsGoal s.d.now s.lat.now items p.0 p.1)
    (λ i. (sym c.as_slice-2.ensures i, sym node_is i)) w.goal

pub wide_items-laid-requires : goal.wide_items-laid-requires
wide_items-laid-requires g c =
    let s = c.args.self.now in
    (goes s.d.now s.lat.now (g.C.Copper.items s.copper.now) s.via_cost c.args.island.now c.args.others.now
    c.args.walk c.requires.can_move.fits c.requires.leads).net_walk

pub returns-in-Ok : goal.returns-in-Ok
returns-in-Ok g c =
    let s = c.args.self.now in
    let items = g.C.Copper.items s.copper.now in
    let w = goes s.d.now s.lat.now items s.via_cost c.args.island.now c.args.others.now
    c.args.walk c.requires.can_move.fits c.requires.leads in
    let nodes_are = c.as_slice-nodes.ensures ∙ w.nodes_are in
    let first_is = first_place c.as_slice-nodes.result.now w.start w.rest 0 nodes_are in
    let last_is = last_place c.as_slice-nodes.result.now w.start w.rest 0 nodes_are in
    record {
      metals_are = c.in-Ok.ensures;
      start = w.start;
      rest = w.rest;
      nodes_are = w.nodes_are;
      from_anchored = subst (λ (p : List ℕ × ℕ). IsAnchored s.d.now s.lat.now items p.0 p.1 c.in-Some.from)
          (λ i. (c.as_slice.ensures i, first_is i)) c.in-Some.ensures;
      to_anchored = subst (λ (p : List Island
          × ℕ). IsAnchoredIn s.d.now s.lat.now items p.0 p.1 c.anchored_at_goal-to.result)
          (λ i. (c.as_slice-2.ensures i, last_is i)) c.anchored_at_goal-to.ensures;
    }

pub bounds-nodes-0 : goal.bounds-nodes-0
bounds-nodes-0 g c =
    let s = c.args.self.now in
    let w = goes s.d.now s.lat.now (g.C.Copper.items s.copper.now) s.via_cost c.args.island.now c.args.others.now
    c.args.walk c.requires.can_move.fits c.requires.leads in
    some_node c.as_slice-nodes.result.now w.start w.rest (c.as_slice-nodes.ensures ∙ w.nodes_are)

pub overflow_sub-nodes : goal.overflow_sub-nodes
overflow_sub-nodes g c =
    let s = c.args.self.now in
    let w = goes s.d.now s.lat.now (g.C.Copper.items s.copper.now) s.via_cost c.args.island.now c.args.others.now
    c.args.walk c.requires.can_move.fits c.requires.leads in
    let some = some_node c.as_slice-nodes.result.now w.start w.rest (c.as_slice-nodes.ensures ∙ w.nodes_are) in
    omega (arith, some)

pub bounds-nodes-nodes : goal.bounds-nodes-nodes
bounds-nodes-nodes g c =
    let s = c.args.self.now in
    let w = goes s.d.now s.lat.now (g.C.Copper.items s.copper.now) s.via_cost c.args.island.now c.args.others.now
    c.args.walk c.requires.can_move.fits c.requires.leads in
    let some = some_node c.as_slice-nodes.result.now w.start w.rest (c.as_slice-nodes.ensures ∙ w.nodes_are) in
    omega (arith, some)
