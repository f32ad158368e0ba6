use Rattle.std.proofs.Common.{◌≡◌, ◌<◌, ℕ}
use Rattle.closing_pass.specs.inner.Steps.{IsShutAt, AreReady}
use Rattle.closing_pass.proofs.join.Closer.join_some.Given as goal

abbrev pub invariant-loop-place : goal.invariant-loop-place
invariant-loop-place l = record {
  found : l.found ≡ l.fn.found;
  board : l.board ≡ l.fn.board;
  shut : (place : ℕ) → place < l.place → IsShutAt l.fn.board.design l.self.lat.now l.self.via_cost l.fn.board.items
      l.fn.found place;
  ready : AreReady l.self.lat.now l.self.via_cost l.fn.board l.state;
}
