use Rattle.std.proofs.Common.{◌∙◌, ◌++◌, ◌∷◌, [], List, ap}
use Rattle.route_run.specs.declared.facts.PassLine.{PassLine}
use Rattle.route_run.specs.Inputs.{run_of}
use Rattle.route_run.specs.inner.States.{PassStateOf}
use Rattle.route_run.proofs.States.{one_more}
use Rattle.route_run.proofs.state.PassState.next.Goals as goal

pub returns : goal.returns
returns g c =
    one_more c.args.number c.penalty_of-penalty.result c.args.self c.map_fixed.new.self c.in_ok-next.next _
    c.in_ok-next.line c.in_ok-next.full c.may_follow.result (c.map_fixed.ensures ∙ c.map_now.ensures)
    c.in_ok-next.ensures
    c.penalty_of-penalty.ensures.penalty
    (ap (λ (ls : List PassLine). record {
      lattice = c.next.inside.input.lat.now;
      run = run_of c.next.inside.input;
      board = c.next.inside.board;
      lines = ls;
    }) c.in_ok-push.ensures.ok
    ∙ ap (λ (v : PassStateOf). record v { lines = v.lines ++ c.in_ok-next.line ∷ [] }) c.next.view_is)
    c.may_follow.ensures.more c.may_follow.ensures.ended
