use Rattle.std.proofs.Common.{◌≡◌, ◌<◌, All, vec_len}
use Rattle.tests_board.proofs.passes.numbers.Given as goal

abbrev pub invariant-loop-n : goal.invariant-loop-n
invariant-loop-n l = record {
  below : All (λ k. k < l.count) l.made.items;
  count : vec_len l.made ≡ l.n;
}
