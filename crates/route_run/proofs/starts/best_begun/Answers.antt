use Rattle.std.proofs.Common.{arith, subst}
use Rattle.std.proofs.lemmas.Result.{IfOk-weaker}
use Rattle.route_run.specs.declared.input.RunInput.{RunInput}
use Rattle.route_run.specs.inner.States.{IsLaterOf, IsOnTheWay}
use Rattle.route_run.proofs.Running.{by_one, new_alone}
use Rattle.route_run.proofs.States.{way_later}
use Rattle.route_run.proofs.starts.best_begun.Goals as goal

pub begin-requires : goal.begin-requires
begin-requires g c = new_alone c.args.input c.alone.result c.args.board c.alone.ensures c.requires.new

pub best_trial-requires-clause-some : goal.best_trial-requires-clause-some
best_trial-requires-clause-some g c = λ κs apart.
    (let some = c.requires.new.input.some_workers in omega (arith, some))

pub returns : goal.returns
returns g c =
    let begun = c.in_ok-begun.begun in
    let way = subst (λ (j : RunInput). IsOnTheWay j c.args.board begun) c.alone.ensures c.in_ok-begun.ensures in
    IfOk-weaker c.best_trial.result (IsLaterOf begun) (IsOnTheWay (by_one c.args.input) c.args.board)
    (λ s later. way_later (by_one c.args.input) c.args.board begun s way later) c.best_trial.ensures
