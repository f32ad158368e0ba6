use Rattle.std.proofs.Common.{ℕ, ◌≡◌, subst, All}
use Rattle.searcher_pool.proofs.pass.make_buffers.Goals as goal

pub returns : goal.returns
returns c = (
  record {
    searches_count = c.in_ok-searches.ensures.0;
    searches_are = subst (λ (n : ℕ). All (λ s. s ≡ n) c.in_ok-searches.searches.items) c.count.ensures.nodes
        c.in_ok-searches.ensures.1;
    workers_empty = (c.in_ok-workers.ensures.items, c.in_ok-workers.ensures.len);
    workers_room = c.in_ok-workers.ensures.capacity;
    logs_empty = (c.in_ok-logs.ensures.items, c.in_ok-logs.ensures.len);
    logs_room = c.in_ok-logs.ensures.capacity;
    table_is = c.in_ok-counter.ensures.1;
    hand_is = c.in_ok-counter.ensures.2;
  },
  c.in_ok-counter.ensures.0,
)
