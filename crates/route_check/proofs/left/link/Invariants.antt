use Rattle.std.proofs.Common.{◌-◌, length}
use Rattle.route_check.specs.inner.Left.{AreLinked}
use Rattle.route_check.proofs.left.link.Given as goal

abbrev pub invariant-loop-k : goal.invariant-loop-k
invariant-loop-k l = AreLinked l.xs l.nets (length l.xs - l.k) l.first.items l.next.items
