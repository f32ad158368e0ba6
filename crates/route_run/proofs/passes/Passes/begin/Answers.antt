use Rattle.route_run.proofs.States.{begun_way, none_gone}
use Rattle.route_run.proofs.passes.Passes.begin.Goals as goal

pub start-requires : goal.start-requires
start-requires c = c.requires.input

pub invariant_of-result : goal.invariant_of-result
invariant_of-result c =
    none_gone c.args.input c.args.board c.in_ok-state.state c.keeps.ensures c.requires c.in_ok-state.ensures

pub returns : goal.returns
returns c = begun_way c.args.input c.args.board c.in_ok-state.state c.in_ok-state.ensures
