use Rattle.board_turn.specs.Turns.{count_of}
use Rattle.board_turn.proofs.EventLists.{saw_all_alone}
use Rattle.board_turn.proofs.laws.one_pass_sees_all.Goals as goal

pub returns : goal.returns
returns c = λ p q d b call first alone. saw_all_alone p.name (count_of p.turn) p.seen call.events first alone
    call.before call.mine call.called
