use Rattle.std.proofs.Common.{sym, arith}
use Rattle.std.specs.BinaryHeap.{heap_items}
use Rattle.wave_search.specs.inner.Order.{inner}
use Rattle.wave_search.proofs.Heap.{waits_at}
use Rattle.wave_search.proofs.Joined.{far_bound}
use Rattle.wave_search.proofs.front.Bins.is_ready.Goals as goal

pub returns-then-top-least : goal.returns-then-top-least
returns-then-top-least c = record {
  before = λ e w. (
    inner c.in-Some.top.now,
    waits_at (heap_items c.args.self.now.near) c.in-Some.top.now 0 c.in-Some.ensures.item.3.0
        (sym c.in-Some.ensures.lookup),
    omega (
      arith,
      far_bound c.args.self.now.next c.args.self.now.later c.args.self.now.last c.args.self.now.spare
          c.least.result c.least-2.result c.least-3.result c.least-4.result
          c.least.ensures c.least-2.ensures c.least-3.ensures c.least-4.ensures c.min-first.result c.min-second.result
          c.min-least.result c.min-first.ensures c.min-second.ensures c.min-least.ensures e w,
    ),
  );
}
