use Rattle.std.proofs.Common.{◌≡◌, All, vec_len}
use Rattle.searcher_pool.proofs.threads.searches.Given as goal

abbrev pub invariant-loop : goal.invariant-loop
invariant-loop l = record {
  count : vec_len l.made ≡ l.counter;
  all : All (λ s. s ≡ l.nodes) l.made.items;
}
