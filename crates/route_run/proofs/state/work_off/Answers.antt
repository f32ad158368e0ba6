use Rattle.std.proofs.Common.{List, sym, subst, arith}
use Rattle.std.specs.Prelude.{IsTrue}
use Rattle.searcher_pool.specs.declared.log.WorkerLog.{WorkerLog}
use Rattle.searcher_pool.specs.Inputs.{pass_of}
use Rattle.searcher_pool.specs.Passes.{IsSpent, MetFull}
use Rattle.route_run.proofs.Worked.{worked_from}
use Rattle.route_run.proofs.state.work_off.Goals as goal

pub run_pass_from-requires-clause-input : goal.run_pass_from-requires-clause-input
run_pass_from-requires-clause-input g c = λ κs apart. c.requires.tasks.input

pub returns-in-Ok : goal.returns-in-Ok
returns-in-Ok g c =
    let old = c.args.board in
    let new = c.in-Ok.board in
    let full = c.is_full-full.result in
    let passed = c.in-Ok.ensures.ok in
    let spent : IsTrue full → IsSpent new =
    λ is. c.full_passes_are_spent.ensures _ old new _ passed
    (subst (λ (logs : List WorkerLog). MetFull logs) c.as_slice.ensures.value (c.is_full-full.ensures.0 is)) in
    worked_from (pass_of c.args.input) old new full _ c.requires.tasks.count
    (let some = c.requires.tasks.input.some_workers in omega (arith, some)) c.keeps.ensures c.keeps-in-Ok.ensures passed
    (c.passes_are_least.ensures _ old new _ passed) c.requires.tasks.open_nets spent
    (λ met. c.is_full-full.ensures.1 (subst (λ (logs : List WorkerLog). MetFull logs) (sym c.as_slice.ensures.value)
    met))
