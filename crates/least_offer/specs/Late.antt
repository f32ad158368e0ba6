-- Offers that come late: planned on a board that has grown since.
use Rattle.pcb_board.specs.declared.answer.Answer.{Answer}
use Rattle.pcb_board.specs.declared.answer.Answer.TheVariants.{Wrong, Malformed}

-- neither wrong nor malformed
abbrev pub IsFair : Answer → Type 0
IsFair (Wrong item commit) = ⊥
IsFair (Malformed clause) = ⊥
IsFair _ = Unit {0}
