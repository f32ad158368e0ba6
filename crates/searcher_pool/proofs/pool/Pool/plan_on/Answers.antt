use Rattle.std.proofs.Common.{◌≡◌, ◌∙◌, ◌<◌, ◌≤◌, ◌^◌, Option, Some, ap, arith, refl, subst, sym}
use Rattle.std.specs.Prelude.{IfOk, IfSome, length}
use Rattle.pcb_model.specs.declared.design.Design.{Design}
use Rattle.move_maps.specs.Maps.{AreMapsOf}
use Rattle.pcb_board.specs.Boards.{SnapOf}
use Rattle.route_lattice.specs.Mesh.{node_count}
use Rattle.route_plan.specs.declared.mapped.MappedSnap.{MappedSnap}
use Rattle.route_plan.specs.Mapped.{CanMap, IsMapped, IsLater}
use Rattle.route_plan.specs.Planners.{CanAsk, CanSearch, PlannerOf, planner_of}
use Rattle.route_plan.specs.Plans.{PlansNet}
use Rattle.board_turn.specs.Turns.{opening}
use Rattle.searcher_pool.specs.inner.Pools.{PoolOf}
use Rattle.searcher_pool.specs.inner.Working.{HasMapped}
use Rattle.searcher_pool.proofs.Following.{design_is, lent_is, mapped_none, net_there, snap_later, snap_mapped}
use Rattle.searcher_pool.proofs.Following.{snap_maps, snap_search, snap_seen}
use Rattle.searcher_pool.proofs.Steps.{after_noted}
use Rattle.searcher_pool.proofs.pool.Pool.plan_on.Goals as goal

pub map_snap-requires-clause-can : goal.map_snap-requires-clause-can
map_snap-requires-clause-can g c =
    subst (λ (o : PoolOf). CanMap o.pass.lattice c.args.snap) (sym c.self.view_is)
    (snap_maps c.args.self.now.pass c.args.self.now.turn c.keeps.ensures.turn c.events_keep.ensures.boards
    c.args.worker.now.pass.seen c.args.snap c.requires.snap c.boards_serve.ensures.serves)

pub map_snap-requires-clause-later : goal.map_snap-requires-clause-later
map_snap-requires-clause-later g c =
    subst (λ (o : PoolOf). IfSome c.take.result (λ mapped. IsLater o.pass.lattice mapped c.args.snap))
    (sym c.self.view_is)
    (subst (λ (last : Option MappedSnap). IfSome last (λ mapped. IsLater c.args.self.now.pass.lattice mapped
    c.args.snap)) (sym c.take.ensures.value)
    (snap_later c.args.self.now.pass c.args.self.now.turn c.keeps.ensures.turn c.events_keep.ensures.boards
    c.args.worker.now.pass.seen c.args.snap c.requires.snap c.boards_serve.ensures.serves c.ids_stay.ensures
    c.args.worker.now.mapped c.requires.at_task.ready.mapped))

pub by_maps-planner-requires-clause-can : goal.by_maps-planner-requires-clause-can
by_maps-planner-requires-clause-can g c =
    let p = c.args.self.now.pass in
    let is = c.keeps.ensures.turn in
    let number = c.requires.at_task.ready.number_is in
    let below = c.requires.at_task.ready.knows.below in
    subst (λ (s : SnapOf). CanSearch c.self.inside.input.lat.now s c.self.inside.input.via_cost
    c.args.worker.now.number) (sym c.in_ok-mapped.ensures.snap_is)
    (subst (λ (o : PoolOf). CanSearch o.pass.lattice c.args.snap o.pass.via_cost c.args.worker.now.number)
    (sym c.self.view_is)
    (snap_search p c.args.self.now.turn is c.events_keep.ensures.boards c.args.worker.now.pass.seen c.args.snap
    c.requires.snap c.boards_serve.ensures.serves c.args.worker.now.number (omega (arith, number, below, is.few))))

pub by_maps-planner-requires-clause-maps : goal.by_maps-planner-requires-clause-maps
by_maps-planner-requires-clause-maps g c =
    let mapped = c.in_ok-mapped.mapped in
    subst (λ (s : SnapOf). AreMapsOf s.design c.self.inside.input.lat.now s.items mapped.maps)
    (sym c.in_ok-mapped.ensures.snap_is) c.in_ok-mapped.ensures.maps_are

pub by_maps-planner-requires-clause-fixed : goal.by_maps-planner-requires-clause-fixed
by_maps-planner-requires-clause-fixed g c =
    let same : (opening c.self.inside.turn).design ≡ c.in_ok-mapped.mapped.snap.design =
    ap (λ (o : PoolOf). (opening o.turn).design) c.self.view_is
    ∙ sym (design_is c.args.self.now.pass c.args.self.now.turn c.keeps.ensures.turn c.events_keep.ensures.boards
    c.args.worker.now.pass.seen c.args.snap c.requires.snap)
    ∙ ap (λ (s : SnapOf). s.design) (sym c.in_ok-mapped.ensures.snap_is) in
    lent_is (λ f. AreMapsOf c.in_ok-mapped.mapped.snap.design c.self.inside.input.lat.now
    c.in_ok-mapped.mapped.snap.design.fixed f) c.as_ref.result c.self.inside.input.maps.now.fixed c.as_ref.ensures.value
    (subst (λ (d : Design). IfSome c.self.inside.input.maps.now.fixed
    (AreMapsOf d c.self.inside.input.lat.now d.fixed)) same c.self.invariant.input.maps.fixed_are)

pub plan-planned-requires-clause-asks : goal.plan-planned-requires-clause-asks
plan-planned-requires-clause-asks g c =
    let p = c.args.self.now.pass in
    let t = c.args.self.now.turn in
    let is = c.keeps.ensures.turn in
    let there : c.args.net < length (opening t).design.nets =
    net_there p (opening t).design c.args.worker.now.drawn.items c.args.net is.task.nets c.requires.at_task.drawn in
    subst (λ (x : PlannerOf). CanAsk x c.args.net c.self.inside.input.penalty) (sym c.by_maps-planner.ensures) (record {
      net_there = subst (λ (d : Design). c.args.net < length d.nets)
          (sym (design_is p t is c.events_keep.ensures.boards c.args.worker.now.pass.seen c.args.snap c.requires.snap)
          ∙ ap (λ (s : SnapOf). s.design) (sym c.in_ok-mapped.ensures.snap_is)) there;
      small_penalty = subst (λ (o : PoolOf). IfSome o.pass.penalty (λ q. q ≤ 2 ^ 30)) (sym c.self.view_is)
          is.task.small_penalty;
    })

pub plan-planned-requires-clause-size : goal.plan-planned-requires-clause-size
plan-planned-requires-clause-size g c =
    c.requires.at_task.ready.size ∙ sym (ap (λ (o : PoolOf). node_count o.pass.lattice) c.self.view_is)
    ∙ sym (ap (λ (x : PlannerOf). node_count x.lat) c.by_maps-planner.ensures)

-- ---- where memory is wanting
pub returns-in_err-mapped-clause-ready : goal.returns-in_err-mapped-clause-ready
returns-in_err-mapped-clause-ready g c =
    let ready = c.requires.at_task.ready in
    record {
      number_is = ready.number_is;
      size = ready.size;
      knows = ready.knows;
      mapped = subst (HasMapped c.args.self.now.pass c.args.self.now.turn c.args.worker.now.pass.seen)
          (sym c.take.ensures.after)
          (mapped_none c.args.self.now.pass c.args.self.now.turn c.args.worker.now.pass.seen);
    }

pub returns-in_err-mapped-clause-after : goal.returns-in_err-mapped-clause-after
returns-in_err-mapped-clause-after g c = record {
  after = after_noted c.args.worker.now _ refl refl refl refl refl refl;
  same = refl;
}

-- ---- with the plan
pub returns-clause-ready : goal.returns-clause-ready
returns-clause-ready g c =
    let p = c.args.self.now.pass in
    let t = c.args.self.now.turn in
    let ready = c.requires.at_task.ready in
    let is : IsMapped p.lattice c.args.snap c.in_ok-mapped.mapped =
    subst (λ (o : PoolOf). IsMapped o.pass.lattice c.args.snap c.in_ok-mapped.mapped) c.self.view_is
    c.in_ok-mapped.ensures in
    record {
      number_is = ready.number_is;
      size = c.plan-planned.ensures.size ∙ ready.size;
      knows = ready.knows;
      mapped = snap_mapped p t c.keeps.ensures.turn c.events_keep.ensures.boards c.args.worker.now.pass.seen
          c.args.snap c.requires.snap c.in_ok-mapped.mapped is;
    }

pub returns-clause-after : goal.returns-clause-after
returns-clause-after g c = record {
  after = after_noted c.args.worker.now _ refl refl refl refl refl refl;
  same = refl;
}

pub returns-clause-plan : goal.returns-clause-plan
returns-clause-plan g c =
    let p = c.args.self.now.pass in
    let t = c.args.self.now.turn in
    let mapped = c.in_ok-mapped.mapped in
    let r = c.plan-planned.result in
    let is : IsMapped p.lattice c.args.snap mapped =
    subst (λ (o : PoolOf). IsMapped o.pass.lattice c.args.snap mapped) c.self.view_is c.in_ok-mapped.ensures in
    let h = subst (λ (x : PlannerOf). IfOk r (PlansNet x c.args.net c.self.inside.input.penalty))
    c.by_maps-planner.ensures c.plan-planned.ensures.plan in
    snap_seen p t c.keeps.ensures.turn c.events_keep.ensures.boards c.args.worker.now.pass.seen c.args.snap
    c.requires.snap (record c.args.worker.now { search = c.plan-planned.new.search; mapped = Some mapped })
    c.args.net mapped r refl is
    (subst (λ (o : PoolOf). IfOk r (PlansNet (planner_of o.pass.lattice mapped.snap o.pass.via_cost
    c.args.worker.now.number) c.args.net o.pass.penalty)) c.self.view_is h)
