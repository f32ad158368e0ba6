-- What a pass is given, and when it may be made by it.
use Rattle.std.specs.Prelude.{◌<◌, ◌≤◌, ◌^◌, length, IfSome}
use Rattle.move_maps.specs.Maps.{AreMapsOf}
use Rattle.pcb_board.specs.Boards.{BoardOf}
use Rattle.board_offers.specs.declared.offer.TheConstants.{CLOSER}
use Rattle.route_plan.specs.Mapped.{IsMappedOn}
use Rattle.route_lattice.specs.Mesh.{Mesh}
use Rattle.searcher_pool.specs.declared.input.PassInput.{PassInput}
use Rattle.searcher_pool.specs.declared.input.PassMaps.{PassMaps}
use Rattle.searcher_pool.specs.Passes.{PassOf, IsTask, pass_from}

-- the pass that is made by it
abbrev pub pass_of : PassInput → PassOf
pass_of j = pass_from j.lat.now j.via_cost j.workers j.tasks.now j.penalty

-- what was mapped is of the board as it was at some time, and the other maps are those of its design's fixed items
pub record AreMaps (m : Mesh) (b : BoardOf) (maps : PassMaps) : Type 0 where
  pub mapped_on : IfSome maps.mapped (IsMappedOn m b)
  pub fixed_are : IfSome maps.fixed (AreMapsOf b.design m b.design.fixed)

-- A pass over the board may be made by it: its tasks fit the design, there are from one to sixteen workers, and the
-- maps are of the board.
pub record CanPass (j : PassInput) (b : BoardOf) : Type 0 where
  pub task : IsTask (pass_of j) b.design
  pub some_workers : 1 ≤ j.workers
  pub few_workers : j.workers ≤ CLOSER
  pub few_tasks : length j.tasks.now < 2 ^ 32
  pub maps : AreMaps j.lat.now b j.maps.now
