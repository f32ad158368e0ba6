use Rattle.wave_search.specs.inner.Order.{entries_of}
use Rattle.wave_search.proofs.Joined.{first_swapped, second_swapped, third_swapped}
use Rattle.wave_search.proofs.front.Bins.take_first.Goals as goal

pub returns-then-not-is_empty-clause-same : goal.returns-then-not-is_empty-clause-same
returns-then-not-is_empty-clause-same c = rw (c.swap.ensures.x_after, c.swap.ensures.y_after)
    (first_swapped (entries_of c.args.self.now.near) c.args.self.now.next c.args.self.now.later c.args.self.now.last
    c.args.self.now.spare)

pub returns-then-not-is_empty-2-clause-same : goal.returns-then-not-is_empty-2-clause-same
returns-then-not-is_empty-2-clause-same c = rw (
  c.swap-then-not-is_empty-2.ensures.x_after,
  c.swap-then-not-is_empty-2.ensures.y_after,
)
    (second_swapped (entries_of c.args.self.now.near) c.args.self.now.next c.args.self.now.later c.args.self.now.last
    c.args.self.now.spare)

pub returns-else-not-is_empty-2-clause-same : goal.returns-else-not-is_empty-2-clause-same
returns-else-not-is_empty-2-clause-same c = rw (
  c.swap-else-not-is_empty-2.ensures.x_after,
  c.swap-else-not-is_empty-2.ensures.y_after,
)
    (third_swapped (entries_of c.args.self.now.near) c.args.self.now.next c.args.self.now.later c.args.self.now.last
    c.args.self.now.spare)
