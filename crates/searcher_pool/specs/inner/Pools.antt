-- What the workers of a pass share.
use Rattle.std.specs.Prelude.{◌≡◌, length}
use Rattle.pcb_board.specs.Keeping.{IsBoard}
use Rattle.board_turn.specs.Claims.{CounterOf}
use Rattle.board_turn.specs.Turns.{TurnOf, opening, count_of}
use Rattle.searcher_pool.specs.declared.input.PassInput.{PassInput}
use Rattle.searcher_pool.specs.Passes.{PassOf}
use Rattle.searcher_pool.specs.Inputs.{CanPass}

-- what contracts see of it: the pass, the turn over its board, and the counter of its tasks
pub record PoolOf : Type 0 where
  pub pass : PassOf
  pub turn : TurnOf
  pub counter : CounterOf

-- the turn is over a board on which the pass may be made, with a pass of the turn for each worker, and the counter
-- counts the tasks
pub record IsPool (j : PassInput) (t : TurnOf) (c : CounterOf) : Type 0 where
  pub board : IsBoard (opening t)
  pub input : CanPass j (opening t)
  pub count : count_of t ≡ j.workers
  pub tasks : c.tasks ≡ length j.tasks.now
