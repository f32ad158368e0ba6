use Rattle.std.proofs.Common.{◌≡◌, ◌∙◌, ap, List, length, arith}
use Rattle.pcb_board.specs.declared.answer.Entry.{Entry}
use Rattle.closing_pass.proofs.Closings.{history_grows}
use Rattle.closing_pass.proofs.closed.close_out.Goals as goal

pub overflow_sub-joins : goal.overflow_sub-joins
overflow_sub-joins c =
    let more = history_grows 16 c.args.lat.now c.args.via_cost c.args.board c.close_board.new.board
    c.in-Ok.ensures.closes.closes in
    let before : c.len-before.result ≡ length c.args.board.history = c.len-before.ensures ∙ ap
    (λ (es : List Entry). length es) c.history.ensures in
    let after : c.len.result ≡ length c.close_board.new.board.history = c.len.ensures ∙ ap
    (λ (es : List Entry). length es) c.history-in-Ok.ensures in
    omega (arith, more, before, after)

pub returns-in-Ok-clause-ok : goal.returns-in-Ok-clause-ok
returns-in-Ok-clause-ok c =
    let more = history_grows 16 c.args.lat.now c.args.via_cost c.args.board c.close_board.new.board
    c.in-Ok.ensures.closes.closes in
    let before : c.len-before.result ≡ length c.args.board.history = c.len-before.ensures ∙ ap
    (λ (es : List Entry). length es) c.history.ensures in
    let after : c.len.result ≡ length c.close_board.new.board.history = c.len.ensures ∙ ap
    (λ (es : List Entry). length es) c.history-in-Ok.ensures in
    record {
      closes = c.in-Ok.ensures.closes.closes;
      count = omega (arith, more, before, after);
      ends = c.in-Ok.ensures.ends;
      settled = c.in-Ok.ensures.settled;
      fewer = c.in-Ok.ensures.closes.fewer;
    }
