use Rattle.std.proofs.Common.{◌∙◌, refl, sym, subst, Option}
use Rattle.std.specs.Prelude.{IfSome}
use Rattle.move_maps.specs.Maps.{AreMapsOf}
use Rattle.pcb_board.specs.Boards.{SnapOf}
use Rattle.pcb_board.specs.Answers.{snap_of}
use Rattle.route_plan.specs.declared.mapped.MappedSnap.{MappedSnap}
use Rattle.route_plan.specs.Mapped.{IsMappedOn}
use Rattle.route_plan.proofs.Mapping.{mapped_now}
use Rattle.closing_pass.proofs.Joining.{can_search, leads_there}
use Rattle.closing_pass.proofs.join.Closer.led_at.Goals as goal

pub by_maps-planner-requires-clause-can : goal.by_maps-planner-requires-clause-can
by_maps-planner-requires-clause-can c =
    let b = c.args.board.now in
    can_search b c.args.self.now.lat.now c.args.self.now.via_cost c.in_ok-mapped.mapped.snap c.requires.ready.can
    c.keeps.ensures (c.boards_serve.ensures.serves b c.keeps.ensures) c.in_ok-mapped.ensures.mapped.snap_is

pub by_maps-planner-requires-clause-maps : goal.by_maps-planner-requires-clause-maps
by_maps-planner-requires-clause-maps c =
    let mapped = c.in_ok-mapped.mapped in
    subst (λ (x : SnapOf). AreMapsOf x.design c.args.self.now.lat.now x.items mapped.maps)
    (sym c.in_ok-mapped.ensures.mapped.snap_is) c.in_ok-mapped.ensures.mapped.maps_are

pub returns-clause-leads : goal.returns-clause-leads
returns-clause-leads c =
    leads_there c.args.board.now c.args.self.now.lat.now c.args.self.now.via_cost c.in_ok-mapped.mapped.snap
    c.by_maps-planner.result c.args.others.now c.args.island.now c.offer_from-led.result c.requires.ready.can
    c.keeps.ensures c.in_ok-mapped.ensures.mapped.snap_is c.by_maps-planner.ensures c.offer_from-led.ensures.leads

pub returns-clause-ready : goal.returns-clause-ready
returns-clause-ready c = record {
  can = c.requires.ready.can;
  size = c.offer_from-led.ensures.size ∙ c.in_ok-mapped.ensures.ready.size;
  mapped = subst (λ (o : Option MappedSnap). IfSome o (IsMappedOn c.args.self.now.lat.now c.args.board.now))
      (sym c.replace.ensures.after)
      (mapped_now c.args.self.now.lat.now c.args.board.now (snap_of c.args.board.now) c.in_ok-mapped.mapped
      c.keeps.ensures refl c.in_ok-mapped.ensures.mapped);
}
