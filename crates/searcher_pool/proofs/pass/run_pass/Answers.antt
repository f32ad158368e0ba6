use Rattle.std.proofs.Common.{ℕ, List, arith, refl, subst, sym}
use Rattle.std.specs.Prelude.{IfErr, IfOk}
use Rattle.searcher_pool.specs.Passes.{Grows, IsPassed, IsTask, pass_from}
use Rattle.searcher_pool.proofs.Workers.{grows_by_none}
use Rattle.searcher_pool.proofs.pass.run_pass.Goals as goal

pub maps_for-requires : goal.maps_for-requires
maps_for-requires g c = c.requires.task.fits

pub returns-in-Err-clause-ok : goal.returns-in-Err-clause-ok
returns-in-Err-clause-ok g c = tt

pub returns-in-Err-clause-back : goal.returns-in-Err-clause-back
returns-in-Err-clause-back g c = grows_by_none _ c.args.board c.args.board refl

pub run_pass_from-passed-requires-clause-input : goal.run_pass_from-passed-requires-clause-input
run_pass_from-passed-requires-clause-input g c = λ κs apart. record {
  task = subst (λ (xs : List ℕ). IsTask (pass_from c.args.lat.now c.args.via_cost c.args.workers xs c.args.penalty)
      c.args.board.design) (sym c.as_slice.ensures.value) c.requires.task;
  some_workers = c.requires.workers.0;
  few_workers = c.requires.workers.1;
  few_tasks = (let long = c.as_slice.ensures.len in let few = c.requires.few in omega (arith, long, few));
  maps = c.in-Ok.ensures;
}

pub returns-clause-ok : goal.returns-clause-ok
returns-clause-ok g c =
    subst (λ (xs : List ℕ). IfOk c.run_pass_from-passed.result (λ r. IsPassed (pass_from c.args.lat.now c.args.via_cost
    c.args.workers xs c.args.penalty) c.args.board r.0 r.1.items)) c.as_slice.ensures.value
    c.run_pass_from-passed.ensures.ok

pub returns-clause-back : goal.returns-clause-back
returns-clause-back g c =
    subst (λ (xs : List ℕ). IfErr c.run_pass_from-passed.result (λ e. Grows (pass_from c.args.lat.now c.args.via_cost
    c.args.workers xs c.args.penalty) c.args.board e.board)) c.as_slice.ensures.value
    c.run_pass_from-passed.ensures.back
