use Rattle.std.proofs.Common.{◌≡◌, ◌<◌, ℕ}
use Rattle.wide_pass.specs.inner.Joins.{IsWideShutAt}
use Rattle.wide_pass.proofs.join.WideCloser.join_net.Given as goal

abbrev pub invariant-loop-place : goal.invariant-loop-place
invariant-loop-place l = record {
  found : l.found ≡ l.initial.found;
  board : l.board ≡ l.fn.board;
  shut : (place : ℕ) → place < l.place → IsWideShutAt l.fn.board.design l.self.lat.now l.self.via_cost
      l.fn.board.items l.initial.found place;
}
