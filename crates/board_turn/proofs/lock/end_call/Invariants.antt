use Rattle.board_turn.specs.Seats.{action_of}
use Rattle.board_turn.proofs.lock.end_call.Given as goal

abbrev pub ghosts-advance : goal.ghosts-advance
ghosts-advance a = record { action = action_of a.outcome.now }
