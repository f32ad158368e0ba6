use Rattle.std.proofs.Common.{sym}
use Rattle.dsn_route.proofs.Prior.{read_alone}
use Rattle.dsn_route.proofs.route.route_read.Goals as goal

pub route_design-requires-clause-asked : goal.route_design-requires-clause-asked
route_design-requires-clause-asked g c = λ κs lives.
    read_alone c.args.command.now _ c.args.design (sym c.in-None.ensures) c.requires.read
