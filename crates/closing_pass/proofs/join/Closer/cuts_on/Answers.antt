use Rattle.std.proofs.Common.{Option, refl, subst, sym}
use Rattle.std.specs.Prelude.{IfSome}
use Rattle.move_maps.specs.Maps.{AreMapsOf}
use Rattle.pcb_board.specs.Answers.{snap_of}
use Rattle.route_plan.specs.declared.mapped.MappedSnap.{MappedSnap}
use Rattle.route_plan.specs.Mapped.{IsMappedOn}
use Rattle.route_plan.proofs.Mapping.{mapped_now}
use Rattle.closing_pass.specs.inner.ClosedBoard.{AreShut}
use Rattle.closing_pass.proofs.Ending.{can_cut, cuts_here}
use Rattle.closing_pass.proofs.Joining.{on_snap}
use Rattle.closing_pass.proofs.join.Closer.cuts_on.Goals as goal

pub invariant_of-on : goal.invariant_of-on
invariant_of-on c =
    let b = c.args.board.now in
    let m = c.args.self.now.lat.now in
    let mapped = c.in_ok-mapped.mapped in
    let is = c.in_ok-mapped.ensures.mapped.snap_is in (
      can_cut m c.args.self.now.via_cost b mapped.snap c.design.result.now is c.design.ensures c.requires.ready.can
          c.keeps.ensures (c.boards_serve.ensures.serves b c.keeps.ensures),
      on_snap (λ d xs. AreMapsOf d m xs mapped.maps) b mapped.snap c.design.result.now is c.design.ensures
          c.in_ok-mapped.ensures.mapped.maps_are,
    )

pub cuts_of-cuts-requires : goal.cuts_of-cuts-requires
cuts_of-cuts-requires c =
    let b = c.args.board.now in
    let m = c.args.self.now.lat.now in
    let cost = c.args.self.now.via_cost in
    let shut = c.requires.shut in
    on_snap (λ d xs. AreShut (record { d = d; lat = m; items = xs; via_cost = cost }) c.args.found) b
    c.in_ok-mapped.mapped.snap c.design.result.now c.in_ok-mapped.ensures.mapped.snap_is c.design.ensures
    (record { net = shut.net; net_there = shut.net_there; islands = shut.islands; shut = shut.shut })

pub returns-clause-cuts : goal.returns-clause-cuts
returns-clause-cuts c =
    cuts_here c.args.self.now.lat.now c.args.self.now.via_cost c.args.board.now c.in_ok-mapped.mapped.snap
    c.design.result.now c.in_ok-mapped.ensures.mapped.snap_is c.design.ensures c.args.found c.cuts_of-cuts.result
    c.cuts_of-cuts.ensures

pub returns-clause-ready : goal.returns-clause-ready
returns-clause-ready c = record {
  can = c.requires.ready.can;
  size = c.in_ok-mapped.ensures.ready.size;
  mapped = subst (λ (o : Option MappedSnap). IfSome o (IsMappedOn c.args.self.now.lat.now c.args.board.now))
      (sym c.replace.ensures.after)
      (mapped_now c.args.self.now.lat.now c.args.board.now (snap_of c.args.board.now) c.in_ok-mapped.mapped
      c.keeps.ensures refl c.in_ok-mapped.ensures.mapped);
}
