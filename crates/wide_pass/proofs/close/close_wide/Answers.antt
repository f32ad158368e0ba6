use Rattle.std.proofs.Common.{◌≡◌, ◌-◌, ◌∙◌, List, ap, arith, length, refl}
use Rattle.pcb_board.specs.declared.answer.Entry.{Entry}
use Rattle.wide_pass.proofs.Rounding.{last_longer, rounds_end}
use Rattle.wide_pass.proofs.close.close_wide.Goals as goal

pub overflow_sub-joins : goal.overflow_sub-joins
overflow_sub-joins c =
    let more = last_longer c.args.lat.now c.args.via_cost c.args.tries c.args.board c.in-Ok.round c.in-Ok.ensures.ok.1
    c.in-Ok.ensures.ok.0 in
    let before : c.len-before.result ≡ length c.args.board.history =
    c.len-before.ensures ∙ ap (λ (es : List Entry). length es) c.history.ensures in
    let after : c.len.result ≡ length c.in-Ok.round.board.history =
    c.len.ensures ∙ ap (λ (es : List Entry). length es) c.history-in-Ok.ensures in
    omega (arith, more, before, after)

pub returns-in-Ok-clause-ok : goal.returns-in-Ok-clause-ok
returns-in-Ok-clause-ok c =
    let more = last_longer c.args.lat.now c.args.via_cost c.args.tries c.args.board c.in-Ok.round c.in-Ok.ensures.ok.1
    c.in-Ok.ensures.ok.0 in
    let before : c.len-before.result ≡ length c.args.board.history =
    c.len-before.ensures ∙ ap (λ (es : List Entry). length es) c.history.ensures in
    let after : c.len.result ≡ length c.in-Ok.round.board.history =
    c.len.ensures ∙ ap (λ (es : List Entry). length es) c.history-in-Ok.ensures in
    rounds_end c.args.lat.now c.args.via_cost c.args.tries c.args.board c.in-Ok.round
    (c.len.result - c.len-before.result)
    _ c.in-Ok.ensures.ok.1 c.in-Ok.ensures.ok.0 (omega (arith, more, before, after)) refl refl refl refl
