use Rattle.pcb_board.specs.Keeping.{IsBoard}
use Rattle.board_turn.proofs.EventLists.{reaches_keeps, reaches_grows, reaches_parts, reaches_whole, reaches_one}
use Rattle.board_turn.proofs.EventLists.{extends}
use Rattle.board_turn.proofs.laws.events_keep.Goals as goal

pub returns-clause-boards : goal.returns-clause-boards
returns-clause-boards c = λ b after es board reaches. reaches_keeps IsBoard
    (λ x y o a is step. c.steps_keep.ensures.boards x y o a is step) b after es board reaches

pub returns-clause-grows : goal.returns-clause-grows
returns-clause-grows c = λ b after es reaches. reaches_grows b after es reaches

pub returns-clause-extends : goal.returns-clause-extends
returns-clause-extends c = λ b after es reaches. extends b after es reaches

pub returns-clause-parts : goal.returns-clause-parts
returns-clause-parts c = λ b after es fs reaches. reaches_parts b after es fs reaches

pub returns-clause-whole : goal.returns-clause-whole
returns-clause-whole c = λ b m after es fs first second. reaches_whole b m after es fs first second

pub returns-clause-one : goal.returns-clause-one
returns-clause-one c = λ b after other es one two. reaches_one b after other es one two
