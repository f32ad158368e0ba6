use Rattle.std.proofs.lemmas.Result.{IfOk-weaker}
use Rattle.route_run.specs.Inputs.{run_of}
use Rattle.route_run.specs.Runs.{IsRun, IsSomeRun}
use Rattle.route_run.proofs.Running.{begun_alone, new_start, run_alone}
use Rattle.route_run.proofs.starts.further_run.Goals as goal

pub best_begun-requires-clause-new : goal.best_begun-requires-clause-new
best_begun-requires-clause-new g c = λ κs apart.
    new_start c.args.input c.args.start.board c.args.start.dropped c.requires.begun c.requires.input

pub run_on-requires-clause-begun : goal.run_on-requires-clause-begun
run_on-requires-clause-begun g c = λ κs apart.
    begun_alone c.args.input c.alone.result c.args.start.board c.args.start.dropped c.in-Ok.passes c.alone.ensures
    c.requires.begun c.requires.input c.in-Ok.ensures

pub returns-in-Ok : goal.returns-in-Ok
returns-in-Ok g c =
    let j = c.args.input in
    let first = c.args.start.board in
    let s = c.in-Ok.passes in
    IfOk-weaker c.run_on.result
    (λ x. IsRun s.board.design c.alone.result.lat.now (run_of c.alone.result) x.board x.facts)
    (λ x. IsSomeRun first.design j.lat.now (run_of j) x.board x.facts)
    (λ x run. run_alone j c.alone.result first s x c.alone.ensures c.requires.input c.in-Ok.ensures run)
    c.run_on.ensures
