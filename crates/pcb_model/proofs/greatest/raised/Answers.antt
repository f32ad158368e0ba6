use Rattle.pcb_model.proofs.Clearances.{one_value}
use Rattle.pcb_model.proofs.greatest.raised.Goals as goal

pub returns-then-next-least-clause-reached : goal.returns-then-next-least-clause-reached
returns-then-next-least-clause-reached c =
    one_value c.args.d.now c.args.net c.args.ka c.args.kb c.value-next.result c.value-next.ensures
