use Rattle.std.proofs.Common.{refl}
use Rattle.route_run.proofs.run.facts_of.Goals as goal

pub returns : goal.returns
returns c = rw (
  c.grid.ensures,
  c.from.ensures,
  c.count.ensures.nodes,
  c.in-Ok.ensures.0,
  c.in-Ok.ensures.1,
) refl
