use Rattle.std.proofs.Common.{◌≡◌}
use Rattle.std.proofs.lemmas.Result.{IfOk-weaker}
use Rattle.route_run.specs.inner.Passing.{IsFinished, routed_of}
use Rattle.route_run.proofs.Running.{few_ends}
use Rattle.route_run.proofs.run.close_and_tell.Goals as goal

pub facts_of-requires : goal.facts_of-requires
facts_of-requires c =
    let j = c.args.input in
    few_ends j.lat.now j.via_cost j.tries j.diagonal c.args.best.board c.in-Ok.shut c.in-Ok.ensures c.keeps.ensures

pub returns-in-Ok : goal.returns-in-Ok
returns-in-Ok c =
    let j = c.args.input in
    IfOk-weaker c.facts_of.result
    (λ r. r ≡ routed_of j.lat.now c.args.dropped c.args.best.lines c.args.best.kept c.in-Ok.shut)
    (IsFinished j.lat.now j.via_cost j.tries j.diagonal c.args.best c.args.dropped)
    (λ r e. record {
      shut = c.in-Ok.shut;
      out = c.in-Ok.ensures;
      board = c.keeps.ensures;
      told = e;
    }) c.facts_of.ensures
