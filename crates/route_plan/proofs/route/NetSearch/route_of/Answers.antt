use Rattle.std.proofs.Common.{◌≡◌, ℕ, ◌<◌, ◌-◌, List, map, length, get_or, ap, arith, sym, ◌∙◌, subst}
use Rattle.pcb_islands.specs.declared.net.Island.{Island}
use Rattle.route_lattice.specs.Mesh.{node_count}
use Rattle.route_lattice.specs.Walks.{to_of}
use Rattle.cut_certificate.specs.Cuts.{IsGoal}
use Rattle.cut_certificate.proofs.Making.{starts_in_lattice}
use Rattle.route_plan.specs.Plans.{moves_of}
use Rattle.route_plan.specs.Searches.{NetSearchOf}
use Rattle.route_plan.specs.Routes.{IsAnchored, IsAnchoredIn, IsRouteOf, JoinsIslands}
use Rattle.route_plan.proofs.Routing.{net_walk_of, ends_at, last_place, first_place, some_node}
use Rattle.route_plan.proofs.route.NetSearch.route_of.Goals as goal

pub anchored_among-requires : goal.anchored_among-requires
anchored_among-requires g c =
    let s = c.self.inside in
    let items = g.C.Copper.items s.copper.now in
    let h = subst (λ (y : NetSearchOf). JoinsIslands y c.args.walk) (sym c.self.view_is) c.requires.joins in
    let graph = moves_of s.d.now s.lat.now items s.island.now.net s.via_cost s.penalty in
    let w = h.walk in
    let net_walk = net_walk_of s.d.now s.lat.now items s.island.now.net s.via_cost s.penalty h.starts h.goals
    c.args.walk (starts_in_lattice s.d.now s.lat.now items s.island.now h.starts h.starts_are) w in
    subst (λ (ns : List ℕ). get_or ns 0 0 < node_count s.lat.now) (sym c.as_slice-nodes.ensures)
    (net_walk.there 0 0 (some_node c.args.walk.nodes w.from (map to_of w.hops) w.nodes))

pub anchored_at_goal-to-requires : goal.anchored_at_goal-to-requires
anchored_at_goal-to-requires g c =
    let s = c.self.inside in
    let items = g.C.Copper.items s.copper.now in
    let h = subst (λ (y : NetSearchOf). JoinsIslands y c.args.walk) (sym c.self.view_is) c.requires.joins in
    let graph = moves_of s.d.now s.lat.now items s.island.now.net s.via_cost s.penalty in
    let w = h.walk in
    let ends = ends_at graph h.starts h.goals c.args.walk w in
    let is_goal = (h.goals_are.exact _).0 ends in
    let node_is : get_or c.as_slice-nodes.result.now (length c.as_slice-nodes.result.now - 1) 0
    ≡ _ = last_place c.as_slice-nodes.result.now w.from (map to_of w.hops) 0 (c.as_slice-nodes.ensures ∙ w.nodes) in
    subst (λ (p : List Island × ℕ). IsGoal s.d.now s.lat.now items p.0 p.1)
    (λ i. (sym c.as_slice-2.ensures i, sym node_is i)) is_goal

pub walk_items-laid-requires : goal.walk_items-laid-requires
walk_items-laid-requires g c =
    let s = c.self.inside in
    let items = g.C.Copper.items s.copper.now in
    let h = subst (λ (y : NetSearchOf). JoinsIslands y c.args.walk) (sym c.self.view_is) c.requires.joins in
    let graph = moves_of s.d.now s.lat.now items s.island.now.net s.via_cost s.penalty in
    let w = h.walk in
    net_walk_of s.d.now s.lat.now items s.island.now.net s.via_cost s.penalty h.starts h.goals c.args.walk
    (starts_in_lattice s.d.now s.lat.now items s.island.now h.starts h.starts_are) w

pub returns-in-Ok : goal.returns-in-Ok
returns-in-Ok g c =
    let s = c.self.inside in
    let items = g.C.Copper.items s.copper.now in
    let h = subst (λ (y : NetSearchOf). JoinsIslands y c.args.walk) (sym c.self.view_is) c.requires.joins in
    let graph = moves_of s.d.now s.lat.now items s.island.now.net s.via_cost s.penalty in
    let w = h.walk in
    let nodes_are = c.as_slice-nodes.ensures ∙ w.nodes in
    let first_is = first_place c.as_slice-nodes.result.now w.from (map to_of w.hops) 0 nodes_are in
    let last_is = last_place c.as_slice-nodes.result.now w.from (map to_of w.hops) 0 nodes_are in
    subst (λ (y : NetSearchOf). IsRouteOf y c.args.walk (record {
      from = c.in-Some.from;
      to = c.anchored_at_goal-to.result;
      metals = c.in-Ok.metals;
    })) c.self.view_is (record {
      metals_are = c.in-Ok.ensures;
      start = w.from;
      rest = map to_of w.hops;
      nodes_are = w.nodes;
      from_anchored = subst (λ (p : List ℕ × ℕ). IsAnchored s.d.now s.lat.now items p.0 p.1 c.in-Some.from)
          (λ i. (c.as_slice.ensures i, first_is i)) c.in-Some.ensures;
      to_anchored = subst (λ (p : List Island
          × ℕ). IsAnchoredIn s.d.now s.lat.now items p.0 p.1 c.anchored_at_goal-to.result)
          (λ i. (c.as_slice-2.ensures i, last_is i)) c.anchored_at_goal-to.ensures;
    })

pub bounds-nodes-0 : goal.bounds-nodes-0
bounds-nodes-0 g c =
    let s = c.self.inside in
    let items = g.C.Copper.items s.copper.now in
    let h = subst (λ (y : NetSearchOf). JoinsIslands y c.args.walk) (sym c.self.view_is) c.requires.joins in
    let graph = moves_of s.d.now s.lat.now items s.island.now.net s.via_cost s.penalty in
    let w = h.walk in
    let count = ap length (c.as_slice-nodes.ensures ∙ w.nodes) in
    omega (arith, count)

pub overflow_sub-nodes : goal.overflow_sub-nodes
overflow_sub-nodes g c =
    let s = c.self.inside in
    let items = g.C.Copper.items s.copper.now in
    let h = subst (λ (y : NetSearchOf). JoinsIslands y c.args.walk) (sym c.self.view_is) c.requires.joins in
    let graph = moves_of s.d.now s.lat.now items s.island.now.net s.via_cost s.penalty in
    let w = h.walk in
    let count = ap length (c.as_slice-nodes.ensures ∙ w.nodes) in
    omega (arith, count)

pub bounds-nodes-nodes : goal.bounds-nodes-nodes
bounds-nodes-nodes g c =
    let s = c.self.inside in
    let items = g.C.Copper.items s.copper.now in
    let h = subst (λ (y : NetSearchOf). JoinsIslands y c.args.walk) (sym c.self.view_is) c.requires.joins in
    let graph = moves_of s.d.now s.lat.now items s.island.now.net s.via_cost s.penalty in
    let w = h.walk in
    let count = ap length (c.as_slice-nodes.ensures ∙ w.nodes) in
    omega (arith, count)
