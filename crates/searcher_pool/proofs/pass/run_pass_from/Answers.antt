use Rattle.std.proofs.Common.{◌∙◌, ap, refl, subst, sym}
use Rattle.pcb_board.specs.Boards.{BoardOf}
use Rattle.pcb_board.specs.Keeping.{IsBoard}
use Rattle.board_turn.specs.Turns.{passes_of}
use Rattle.searcher_pool.specs.Passes.{Grows, IsPassed}
use Rattle.searcher_pool.specs.Inputs.{CanPass, pass_of}
use Rattle.searcher_pool.proofs.Workers.{grows_by_none}
use Rattle.searcher_pool.proofs.pass.run_pass_from.Goals as goal

pub returns-in-Err-clause-ok : goal.returns-in-Err-clause-ok
returns-in-Err-clause-ok g c = tt

pub returns-in-Err-clause-back : goal.returns-in-Err-clause-back
returns-in-Err-clause-back g c = grows_by_none _ c.args.board c.args.board refl

pub new-requires : goal.new-requires
new-requires g c = (c.requires.input.some_workers, c.requires.input.few_workers)

pub returns-in-Err-new-clause-ok : goal.returns-in-Err-new-clause-ok
returns-in-Err-new-clause-ok g c = tt

pub returns-in-Err-new-clause-back : goal.returns-in-Err-new-clause-back
returns-in-Err-new-clause-back g c =
    grows_by_none _ c.args.board c.in-Err-new.back.board c.in-Err-new.ensures.err

pub invariant_of-pool : goal.invariant_of-pool
invariant_of-pool g c =
    let made = c.in-Ok-new.ensures.ok in
    record {
      board = subst IsBoard (sym made.0) c.keeps.ensures;
      input = subst (CanPass c.args.input) (sym made.0) c.requires.input;
      count = made.1;
      tasks = c.in-Ok.ensures.1;
    }

pub work_and_close-board-requires-clause-passes : goal.work_and_close-board-requires-clause-passes
work_and_close-board-requires-clause-passes g c = λ κs apart.
    let made = c.in-Ok-new.ensures.ok in (
      made.2 ∙ ap (passes_of c.in-Ok-new.made.0 0) (sym made.3),
      made.3,
      made.4,
    )

pub work_and_close-board-requires-clause-buffers : goal.work_and_close-board-requires-clause-buffers
work_and_close-board-requires-clause-buffers g c = λ κs apart. c.in-Ok.ensures.0

pub returns-then-failed-clause-ok : goal.returns-then-failed-clause-ok
returns-then-failed-clause-ok g c = tt

pub returns-then-failed-clause-back : goal.returns-then-failed-clause-back
returns-then-failed-clause-back g c =
    subst (λ (x : BoardOf). Grows (pass_of c.args.input) x c.work_and_close-board.result.0) c.in-Ok-new.ensures.ok.0
    c.work_and_close-board.ensures.grows

pub returns-clause-ok : goal.returns-clause-ok
returns-clause-ok g c =
    subst (λ (x : BoardOf). IsPassed (pass_of c.args.input) x c.work_and_close-board.result.0
    c.work_and_close-board.result.1.items) c.in-Ok-new.ensures.ok.0
    (c.work_and_close-board.ensures.passed c.if-failed.false)

pub returns-clause-back : goal.returns-clause-back
returns-clause-back g c = tt
