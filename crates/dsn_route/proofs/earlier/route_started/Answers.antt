use Rattle.std.proofs.Common.{map, subst, sym}
use Rattle.pcb_model.specs.Plain.{IsPlainCopper}
use Rattle.ses_reader.specs.Wiring.{wire_of}
use Rattle.route_check.specs.Board.{left_of}
use Rattle.dsn_route.proofs.Prior.{started_from}
use Rattle.dsn_route.proofs.earlier.route_started.Goals as goal

pub route_design-requires-clause-plain : goal.route_design-requires-clause-plain
route_design-requires-clause-plain g c = λ κs lives.
    subst IsPlainCopper (sym c.in-Ok.ensures.started)
    (c.other_wiring_keeps.ensures.plain c.args.design (map wire_of (left_of c.args.design.fixed c.args.items))
    c.requires.plain)

pub route_design-requires-clause-asked : goal.route_design-requires-clause-asked
route_design-requires-clause-asked g c = λ κs lives.
    started_from c.args.command.now _ c.args.design c.in-Ok.design c.args.items c.requires.read c.requires.session
    c.in-Ok.ensures.started
