use Rattle.std.proofs.Common.{◌∙◌, refl}
use Rattle.route_run.proofs.States.{copied_nets}
use Rattle.route_run.proofs.connections.OpenNets.copy.Goals as goal

pub returns : goal.returns
returns c = λ b are.
    copied_nets b c.args.self.now _ are (c.in_ok-nets.ensures.items ∙ c.as_slice.ensures.value)
    (c.in_ok-nets.ensures.len ∙ c.as_slice.ensures.len) refl
