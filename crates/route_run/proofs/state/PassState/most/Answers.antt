use Rattle.std.proofs.Common.{ap}
use Rattle.route_run.specs.inner.States.{PassStateOf}
use Rattle.route_run.proofs.state.PassState.most.Goals as goal

pub returns-clause-most : goal.returns-clause-most
returns-clause-most c = ap (λ (s : PassStateOf). s.run.passes) c.self.view_is

pub returns-clause-few : goal.returns-clause-few
returns-clause-few c = (c.self.invariant.input.some_passes, c.self.invariant.input.few_passes)
