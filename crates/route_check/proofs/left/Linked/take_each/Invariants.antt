use Rattle.std.proofs.Common.{◌≡◌, length, take}
use Rattle.route_check.specs.Board.{left_of}
use Rattle.route_check.specs.inner.Left.{kept}
use Rattle.route_check.proofs.left.Linked.take_each.Given as goal

abbrev pub invariant-loop-a : goal.invariant-loop-a
invariant-loop-a l = record {
  count : length l.gone.items ≡ length l.initial.gone.items;
  taken : kept l.gone.items l.self.xs.now
      ≡ left_of (take l.a-index l.fixed) (kept l.initial.gone.items l.self.xs.now);
}
