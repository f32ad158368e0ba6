use Rattle.std.proofs.Common.{sym, ◌∙◌, true≢false}
use Rattle.route_lattice.proofs.legal.is_legal.Goals as goal

pub returns-then-not-probe_inside : goal.returns-then-not-probe_inside
returns-then-not-probe_inside g c = (
  λ t. absurd (true≢false (sym t)),
  λ h. absurd (true≢false (sym (c.probe_inside.ensures.1 h.inside) ∙ c.if-not-probe_inside.true)),
)
