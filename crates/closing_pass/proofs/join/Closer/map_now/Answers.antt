use Rattle.std.proofs.Common.{Option, subst, sym}
use Rattle.std.specs.Prelude.{IfOk, IfSome}
use Rattle.pcb_board.specs.Boards.{SnapOf}
use Rattle.route_plan.specs.declared.mapped.MappedSnap.{MappedSnap}
use Rattle.route_plan.specs.Mapped.{IsMapped, IsMappedOn}
use Rattle.route_plan.proofs.Mapping.{can_map, some_later}
use Rattle.closing_pass.proofs.join.Closer.map_now.Goals as goal

pub map_snap-requires-clause-can : goal.map_snap-requires-clause-can
map_snap-requires-clause-can c =
    can_map c.args.self.now.lat.now c.args.board.now c.in_ok-snap.snap c.keeps.ensures c.requires.ready.can.fits
    c.boards_serve.ensures.serves c.in_ok-snap.ensures

pub map_snap-requires-clause-later : goal.map_snap-requires-clause-later
map_snap-requires-clause-later c =
    some_later c.args.self.now.lat.now c.args.board.now c.in_ok-snap.snap c.take.result c.keeps.ensures
    c.boards_serve.ensures.serves c.ids_stay.ensures c.in_ok-snap.ensures
    (subst (λ (o : Option MappedSnap). IfSome o (IsMappedOn c.args.self.now.lat.now c.args.board.now))
    (sym c.take.ensures.value) c.requires.ready.mapped)

pub returns-clause-mapped : goal.returns-clause-mapped
returns-clause-mapped c =
    subst (λ (s : SnapOf). IfOk c.map_snap.result (IsMapped c.args.self.now.lat.now s)) c.in_ok-snap.ensures
    c.map_snap.ensures
