-- What a seat of the ticket lock sees of the board.
use Rattle.std.specs.Prelude.{ℕ, List, Option, Some}
use Rattle.pcb_board.specs.Boards.{BoardOf}
use Rattle.board_turn.specs.declared.event.Event.{Event}
use Rattle.board_turn.specs.declared.lock.Opening.{Opening}
use Rattle.board_turn.specs.declared.lock.PassView.{PassView}
use Rattle.board_turn.specs.declared.lock.Role.{Role}
use Rattle.board_turn.specs.declared.lock.View.{View}

abbrev pub Slot : Type 0
Slot = Option BoardOf

abbrev pub pass_view : ℕ → List Event → PassView
pass_view n es = record { name = n; seen = es }

abbrev pub view_of : Opening → List PassView → Role → View
view_of k ps r = record { passes = ps; opening = Some k; role = r }
