-- What a run is given, and when it may be made by it.
use Rattle.std.specs.Prelude.{◌≤◌}
use Rattle.board_offers.specs.declared.offer.TheConstants.{CLOSER}
use Rattle.pcb_model.specs.declared.design.Design.{Design}
use Rattle.route_run.specs.declared.input.RunInput.{RunInput}
use Rattle.route_run.specs.Runs.{IsTask, RunOf, run_from}

-- the run that is made by it
abbrev pub run_of : RunInput → RunOf
run_of j = run_from j.via_cost j.workers j.passes j.tries j.diagonal

-- a run of the design may be made by it: there are from one to sixteen workers, and from one to 99 passes
pub record CanRun (j : RunInput) (d : Design) : Type 0 where
  pub task : IsTask d j.lat.now j.via_cost
  pub some_workers : 1 ≤ j.workers
  pub few_workers : j.workers ≤ CLOSER
  pub some_passes : 1 ≤ j.passes
  pub few_passes : j.passes ≤ 99
