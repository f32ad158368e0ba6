use Rattle.std.proofs.Common.{IfOk, subst}
use Rattle.pcb_board.specs.Boards.{BoardOf}
use Rattle.route_run.specs.Runs.{IsSomeRun}
use Rattle.route_run.specs.Inputs.{run_of}
use Rattle.route_run.specs.declared.run.Routed.{Routed}
use Rattle.route_run.proofs.Running.{better_is, some_run}
use Rattle.route_run.proofs.starts.run_twice.Goals as goal

pub returns : goal.returns
returns g c =
    let d = c.args.start.board.design in
    let m = c.args.input.lat.now in
    let r = run_of c.args.input in
    let first = c.in-Ok.first in
    let other = c.further_run-other.result in
    better_is (λ (x : Routed). IsSomeRun d m r x.board x.facts) first c.better_run.result other
    (some_run d m r first.board first.facts c.requires.input.some_workers c.in-Ok.ensures)
    (subst (λ (b : BoardOf). IfOk other (λ (x : Routed). IsSomeRun b.design m r x.board x.facts))
    c.in_ok-spare.ensures.board c.further_run-other.ensures) c.better_run.ensures
