use Rattle.std.proofs.Common.{sym, subst}
use Rattle.pcb_model.specs.Sound.{Serves}
use Rattle.route_plan.proofs.Serving.{fixed_serve}
use Rattle.tests_board.proofs.copper.fixed_plain.Goals as goal

pub returns : goal.returns
returns c =
    subst (λ items. Serves items c.args.d.now) (sym c.in_ok-copper.ensures) (fixed_serve c.args.d.now c.requires)
