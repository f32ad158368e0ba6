use Rattle.std.proofs.Common.{◌∙◌, ap, map}
use Rattle.dsn_shapes.specs.declared.parts.ReadNet.{ReadNet}
use Rattle.dsn_shapes.specs.declared.parts.Stack.{Stack}
use Rattle.dsn_wiring.proofs.wiring.read_wires.Goals as goal

pub returns-clause-noted : goal.returns-clause-noted
returns-clause-noted c =
    let stacks = c.in_ok-names.ensures ∙ ap (map (λ (s : Stack). s.name)) c.as_slice.ensures in
    let nets = c.in_ok-nets.ensures ∙ ap (map (λ (n : ReadNet). n.name)) c.as_slice-2.ensures in
    rw stacks at (rw nets at c.read_each.ensures.noted)

pub returns-clause-value : goal.returns-clause-value
returns-clause-value c =
    let stacks = c.in_ok-names.ensures ∙ ap (map (λ (s : Stack). s.name)) c.as_slice.ensures in
    let nets = c.in_ok-nets.ensures ∙ ap (map (λ (n : ReadNet). n.name)) c.as_slice-2.ensures in
    rw stacks at (rw nets at c.read_each.ensures.values)
