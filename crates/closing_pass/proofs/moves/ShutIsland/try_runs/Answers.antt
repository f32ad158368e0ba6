use Rattle.std.proofs.Common.{Option, true, false, arith, subst}
use Rattle.pcb_board.specs.Boards.{BoardOf}
use Rattle.pcb_board.specs.Keeping.{IsBoard}
use Rattle.closing_pass.specs.inner.Steps.{AreReady}
use Rattle.closing_pass.specs.inner.Trials.{after_trial}
use Rattle.closing_pass.specs.inner.Tries.{AnswersBy, IsShutIsland, MovesRunTo, ShutIslandOf}
use Rattle.closing_pass.proofs.Answered.{none_aside, none_more}
use Rattle.closing_pass.proofs.moves.ShutIsland.try_runs.Goals as goal

pub try_run-requires-clause-ready : goal.try_run-requires-clause-ready
try_run-requires-clause-ready c = c.loop-run.invariant.ready

pub try_run-requires-clause-item : goal.try_run-requires-clause-item
try_run-requires-clause-item c = c.requires.item

pub try_run-requires-clause-run : goal.try_run-requires-clause-run
try_run-requires-clause-run c =
    let e = c.run_count-run-end.ensures in let t = c.loop-run-test.true in omega (arith, e, t)

pub loop-run-preserved : goal.loop-run-preserved
loop-run-preserved c =
    let s = c.args.self.now in
    let x = c.args.item.now in
    let inv = subst (λ (t : ShutIslandOf). IsShutIsland t.lat t.via_cost t.board t.island t.others t.cut) c.self.view_is
    c.self.invariant in
    let kept = subst (λ (t : ShutIslandOf). IsBoard t.board) c.self.view_is c.keeps.ensures in
    record {
      none = none_more s inv kept x c.requires.item c.loop-run.run c.loop-run.invariant.none
          (subst (λ (r : Option BoardOf). AnswersBy s x.id (MovesRunTo s x c.loop-run.run true) r) c.in_default.is
          c.in_ok-helped.ensures.answers)
          (subst (λ (r : Option BoardOf). AnswersBy s x.id (MovesRunTo s x c.loop-run.run false) r) c.in_default-2.is
          c.in_ok-helped-2.ensures.answers);
      ready = subst (λ (r : Option BoardOf). AreReady s.lat s.via_cost (after_trial s.board r)
          c.try_run-in-loop-run.new.state) c.in_default-2.is c.in_ok-helped-2.ensures.ready;
    }

pub returns-clause-answers : goal.returns-clause-answers
returns-clause-answers c =
    let s = c.args.self.now in
    let inv = subst (λ (t : ShutIslandOf). IsShutIsland t.lat t.via_cost t.board t.island t.others t.cut) c.self.view_is
    c.self.invariant in
    let kept = subst (λ (t : ShutIslandOf). IsBoard t.board) c.self.view_is c.keeps.ensures in
    let e = c.run_count-run-end.ensures in
    let t = c.loop-run-test.false in
    none_aside s inv kept c.args.item.now c.requires.item c.loop-run.run (omega (arith, e, t))
    c.loop-run.invariant.none
