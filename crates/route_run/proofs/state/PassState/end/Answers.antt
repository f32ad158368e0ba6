use Rattle.std.proofs.Common.{ap}
use Rattle.route_run.specs.inner.States.{PassStateOf}
use Rattle.route_run.proofs.state.PassState.end.Goals as goal

pub returns : goal.returns
returns c = (
  ap (λ (s : PassStateOf). s.board) c.self.view_is,
  ap (λ (s : PassStateOf). s.lines) c.self.view_is,
)
