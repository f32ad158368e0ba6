use Rattle.std.proofs.Common.{inl, inr, subst}
use Rattle.dsn_route.specs.Commands.{AsksToRoute}
use Rattle.dsn_route.proofs.write.write_out.Goals as goal

pub returns-in-Route : goal.returns-in-Route
returns-in-Route g c = rw c.in-Route.is (c.write_both.ensures _ _ _)

pub returns-in-Check : goal.returns-in-Check
returns-in-Check g c = elim c.in-Check.is [
  | inl check ↦ absurd (subst AsksToRoute check.3 c.requires.routes)
  | inr gen ↦ rw gen.1 (c.put_short.ensures gen.0 (g.D.Desk.state c.args.desk.now))
]
