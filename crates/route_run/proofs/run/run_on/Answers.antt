use Rattle.std.proofs.lemmas.Result.{IfOk-weaker}
use Rattle.route_run.specs.Runs.{IsRun}
use Rattle.route_run.specs.Inputs.{run_of}
use Rattle.route_run.specs.inner.Passing.{IsFinished}
use Rattle.route_run.proofs.Running.{run_begun, task_kept}
use Rattle.route_run.proofs.run.run_on.Goals as goal

pub close_and_tell-requires : goal.close_and_tell-requires
close_and_tell-requires g c =
    task_kept c.args.input c.args.passes.lattice c.args.passes.run c.args.passes.board c.in-Ok.best c.in-Ok.ensures
    c.requires.begun.input

pub returns : goal.returns
returns g c =
    let j = c.args.input in
    let s = c.args.passes in
    IfOk-weaker c.close_and_tell.result
    (IsFinished j.lat.now j.via_cost j.tries j.diagonal c.in-Ok.best c.args.dropped)
    (λ x. IsRun s.board.design j.lat.now (run_of j) x.board x.facts)
    (λ x is. run_begun j s c.in-Ok.best c.args.dropped x c.requires.begun c.in-Ok.ensures c.keeps.ensures is)
    c.close_and_tell.ensures
