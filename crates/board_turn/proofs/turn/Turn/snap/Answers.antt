use Rattle.std.proofs.Common.{◌∙◌}
use Rattle.board_turn.specs.declared.event.Action.TheVariants.{Snapped, NoMemory}
use Rattle.board_turn.specs.Seats.{pass_at, key_of}
use Rattle.board_turn.proofs.Seats.{calls_of}
use Rattle.board_turn.proofs.turn.Turn.snap.Goals as goal

pub returns-in-Ok-clause-ok : goal.returns-in-Ok-clause-ok
returns-in-Ok-clause-ok g c =
    let seat = c.pass.inside.seat in
    let back = c.end_call.ensures in
    let took = c.take_board-board.ensures in
    let wait = c.draw_ticket-ticket.ensures in (
      c.take_board-board.result,
      calls_of seat.table_id c.end_call.new.seat.table_id c.self.inside.lock.shared.key (key_of seat.me.0.opening)
          (pass_at seat.me) (pass_at c.draw_ticket-ticket.new.seat.me)
          (pass_at c.take_board-board.new.seat.me) c.end_call.new.seat.me c.args.pass.now c.args.self.now _ Snapped _
          c.pass.view_is c.requires c.self.view_is (back.0 ∙ took.seat.0 ∙ wait.0) wait.2 took.taken back.1 back.2,
      c.in-Ok.ensures,
    )

pub returns-in-Err-clause-err : goal.returns-in-Err-clause-err
returns-in-Err-clause-err g c =
    let seat = c.pass.inside.seat in
    let back = c.end_call-in-Err.ensures in
    let took = c.take_board-board.ensures in
    let wait = c.draw_ticket-ticket.ensures in (
      c.take_board-board.result,
      calls_of seat.table_id c.end_call-in-Err.new.seat.table_id c.self.inside.lock.shared.key
          (key_of seat.me.0.opening) (pass_at seat.me) (pass_at c.draw_ticket-ticket.new.seat.me)
          (pass_at c.take_board-board.new.seat.me) c.end_call-in-Err.new.seat.me c.args.pass.now c.args.self.now _
          NoMemory _
          c.pass.view_is c.requires c.self.view_is (back.0 ∙ took.seat.0 ∙ wait.0) wait.2 took.taken back.1 back.2,
    )
