use Rattle.std.proofs.Common.{◌∙◌, sym, ap}
use Rattle.pcb_model.specs.declared.design.Design.{Design}
use Rattle.dsn_route.specs.Commands.{mesh_of}
use Rattle.dsn_route.proofs.route.route_on.Goals as goal

pub write_out-status-requires : goal.write_out-status-requires
write_out-status-requires g c =
    record {
      routes = c.requires.order.routes;
      lattice = c.requires.lattice
          ∙ ap (λ (d : Design). mesh_of c.args.command.now d) (sym c.in-Ok.ensures.run.design_is);
    }
