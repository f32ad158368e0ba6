use Rattle.std.proofs.Common.{IfOk, subst}
use Rattle.pcb_model.specs.declared.design.Design.{Design}
use Rattle.route_run.specs.Runs.{IsRun}
use Rattle.route_run.specs.Inputs.{run_of}
use Rattle.route_run.specs.declared.run.Routed.{Routed}
use Rattle.route_run.proofs.Running.{way_begun}
use Rattle.route_run.proofs.run.run_under.Goals as goal

pub run_on-requires-clause-begun : goal.run_on-requires-clause-begun
run_on-requires-clause-begun g c = λ κs apart.
    way_begun c.args.input c.args.start.board c.args.start.dropped c.in-Ok.passes c.requires.begun c.requires.input
    c.in-Ok.ensures

pub returns-in-Ok : goal.returns-in-Ok
returns-in-Ok g c =
    subst (λ (d : Design). IfOk c.run_on.result (λ (x : Routed).
    IsRun d c.args.input.lat.now (run_of c.args.input) x.board x.facts)) c.in-Ok.ensures.same.design_stays
    c.run_on.ensures
