use Rattle.std.proofs.Common.{◌≡◌, ◌∙◌, List, ap, arith, length, sym}
use Rattle.pcb_board.specs.declared.answer.Entry.{Entry}
use Rattle.closing_pass.specs.OpenCount.{FewerOpen}
use Rattle.closing_pass.specs.inner.Rounds.{AreSettledEnds}
use Rattle.closing_pass.proofs.Closings.{history_grows}
use Rattle.closing_pass.proofs.Fewer.{fewer_later}
use Rattle.closing_pass.proofs.Rounding.{closed_grown, closed_then, on_other, on_same, round_settled}
use Rattle.closing_pass.proofs.join.Closer.close_and_round.Goals as goal

pub returns-in_err-close_all-clause-closes : goal.returns-in_err-close_all-clause-closes
returns-in_err-close_all-clause-closes c =
    closed_grown c.args.self.now.lat.now c.args.self.now.via_cost c.args.board.now c.close_all.new.board
    c.keeps.ensures c.close_all.ensures.closes c.close_all.ensures.stays

pub returns-in_err-ends-clause-closes : goal.returns-in_err-ends-clause-closes
returns-in_err-ends-clause-closes c =
    let m = c.args.self.now.lat.now in
    let cost = c.args.self.now.via_cost in
    let tries = c.args.self.now.tries in
    let b0 = c.args.board.now in
    let b1 = c.close_all.new.board in
    let b2 = c.round.new.board in
    let grown = closed_grown m cost b0 b1 c.keeps.ensures c.close_all.ensures.closes c.close_all.ensures.stays in
    closed_then m cost b0 b1 b2 c.keeps-2.ensures grown c.round.ensures.closes

pub returns-clause-settled : goal.returns-clause-settled
returns-clause-settled c =
    let m = c.args.self.now.lat.now in
    let cost = c.args.self.now.via_cost in
    let tries = c.args.self.now.tries in
    let b0 = c.args.board.now in
    let b1 = c.close_all.new.board in
    let b2 = c.round.new.board in
    let before : c.len-before.result ≡ length b1.history = c.len-before.ensures
    ∙ ap (λ (es : List Entry). length es) c.history.ensures in
    let after : c.len.result ≡ length b2.history = c.len.ensures
    ∙ ap (λ (es : List Entry). length es) c.history-2.ensures in
    on_same c.len.result c.len-before.result (AreSettledEnds m cost tries b2 c.in_ok-ends.ends)
    (λ e. round_settled m cost tries b1 b2 c.in_ok-ends.ends c.round.ensures.fewer c.in_ok-ends.ensures.rounded
    (omega (arith, e, before, after)))

pub returns-clause-fewer : goal.returns-clause-fewer
returns-clause-fewer c =
    let m = c.args.self.now.lat.now in
    let cost = c.args.self.now.via_cost in
    let tries = c.args.self.now.tries in
    let b0 = c.args.board.now in
    let b1 = c.close_all.new.board in
    let b2 = c.round.new.board in
    let before : c.len-before.result ≡ length b1.history = c.len-before.ensures
    ∙ ap (λ (es : List Entry). length es) c.history.ensures in
    let after : c.len.result ≡ length b2.history = c.len.ensures
    ∙ ap (λ (es : List Entry). length es) c.history-2.ensures in
    let grown = closed_grown m cost b0 b1 c.keeps.ensures c.close_all.ensures.closes c.close_all.ensures.stays in
    let more = history_grows 16 m cost b1 b2 c.round.ensures.closes.closes in
    on_other c.len.result c.len-before.result (FewerOpen b0 b2)
    (λ apart. let other : ¬ (length b2.history ≡ length b1.history) = λ e. apart (after ∙ e ∙ sym before) in
    fewer_later b0 b1 b2 c.keeps-2.ensures grown.fewer (c.round.ensures.fewer.fewer (omega (arith, more, other))))

pub returns-clause-closes : goal.returns-clause-closes
returns-clause-closes c =
    let m = c.args.self.now.lat.now in
    let cost = c.args.self.now.via_cost in
    let tries = c.args.self.now.tries in
    let b0 = c.args.board.now in
    let b1 = c.close_all.new.board in
    let b2 = c.round.new.board in
    let grown = closed_grown m cost b0 b1 c.keeps.ensures c.close_all.ensures.closes c.close_all.ensures.stays in
    closed_then m cost b0 b1 b2 c.keeps-2.ensures grown c.round.ensures.closes

pub returns-clause-ready : goal.returns-clause-ready
returns-clause-ready c = c.in_ok-ends.ensures.ready
