use Rattle.std.proofs.Common.{◌≡◌, ◌∙◌, ◌≤◌, List, length, ap, arith, subst, sym}
use Rattle.route_run.specs.declared.facts.PassLine.{PassLine}
use Rattle.route_run.specs.Runs.{IsBest, entries_after}
use Rattle.route_run.specs.inner.Passing.{GoesBack}
use Rattle.route_run.proofs.Running.{kept_within, some_lines}
use Rattle.route_run.proofs.run.keep_best.Goals as goal

pub best_of-kept-requires : goal.best_of-kept-requires
best_of-kept-requires g c =
    let same = ap (λ (lines : List PassLine). length lines) c.as_slice.ensures in
    let some = some_lines _ c.in_ok-board.board c.in_ok-board.lines c.in_ok-board.ensures.ended in
    let few = c.in_ok-board.ensures.few in
    (omega (arith, same, some), omega (arith, same, few))

pub go_back-requires-clause-all : goal.go_back-requires-clause-all
go_back-requires-clause-all g c =
    let board = c.in_ok-board.board in
    subst (λ (lines : List PassLine). length board.history ≡ entries_after lines (length lines))
    (sym c.as_slice-2.ensures) c.in_ok-board.ensures.passed.no_more

pub go_back-requires-clause-kept : goal.go_back-requires-clause-kept
go_back-requires-clause-kept g c =
    let kept = c.best_of-kept.result in
    subst (λ (lines : List PassLine). kept ≤ length lines) (c.as_slice.ensures ∙ sym c.as_slice-2.ensures)
    (kept_within c.as_slice.result.now kept c.best_of-kept.ensures)

pub returns : goal.returns
returns g c =
    let kept = c.best_of-kept.result in
    let made = c.in_ok-board.ensures in
    record {
      passed = c.in_ok-board.board;
      same = made.same;
      has = made.passed;
      ended = made.ended;
      best = subst (λ (lines : List PassLine). IsBest lines kept) c.as_slice.ensures c.best_of-kept.ensures;
      gone = subst (λ (lines : List PassLine). GoesBack lines kept c.in_ok-board.board c.in_ok-board-2.board)
          c.as_slice-2.ensures c.in_ok-board-2.ensures;
    }
