use Rattle.std.proofs.Common.{◌∙◌, ◌<◌, length, subst, sym}
use Rattle.std.proofs.lemmas.Bool.{false≢true}
use Rattle.std.proofs.lemmas.Result.{IfOk-weaker}
use Rattle.pcb_model.specs.declared.design.Design.{Design}
use Rattle.closing_pass.specs.inner.Rounds.{HasTurned}
use Rattle.closing_pass.proofs.Rounding.{closed_net, closed_then, turned_later}
use Rattle.closing_pass.proofs.join.Closer.turn.Goals as goal

pub end_of-requires-clause-closed : goal.end_of-requires-clause-closed
end_of-requires-clause-closed c = c.requires.closed c.if-not-changed.true

pub returns-then-not-changed-clause-fewer : goal.returns-then-not-changed-clause-fewer
returns-then-not-changed-clause-fewer c = λ _. c.end_of.ensures.fewer

pub returns-in_err-close-clause-fewer : goal.returns-in_err-close-clause-fewer
returns-in_err-close-clause-fewer c = λ e. absurd (false≢true (sym e ∙ c.if-not-changed.false))

pub returns-in_err-close-clause-closes : goal.returns-in_err-close-clause-closes
returns-in_err-close-clause-closes c = closed_net c.args.self.now.lat.now c.args.self.now.via_cost c.args.net
    c.args.board.now c.close.new.board c.keeps.ensures c.close.ensures.joins

pub end_of-requires-2-clause-net : goal.end_of-requires-2-clause-net
end_of-requires-2-clause-net c = subst (λ (d : Design). c.args.net < length d.nets)
    (sym c.close.ensures.joins.grows.design_stays) c.requires.net

pub returns-clause-turned : goal.returns-clause-turned
returns-clause-turned c =
    let m = c.args.self.now.lat.now in
    let cost = c.args.self.now.via_cost in
    let tries = c.args.self.now.tries in
    let net = c.args.net in
    let b = c.args.board.now in
    let b1 = c.close.new.board in
    let b2 = c.end_of-2.new.board in
    IfOk-weaker c.end_of-2.result (HasTurned m cost tries net b1 b2) (HasTurned m cost tries net b b2)
    (λ cuts h. turned_later m cost tries net b b1 b2 cuts c.keeps.ensures c.keeps-2.ensures
    c.close.ensures.joins.closes c.end_of-2.ensures.closes.closes h) c.end_of-2.ensures.turned

pub returns-clause-fewer : goal.returns-clause-fewer
returns-clause-fewer c = λ e. absurd (false≢true (sym e ∙ c.if-not-changed.false))

pub returns-clause-closes : goal.returns-clause-closes
returns-clause-closes c = closed_then c.args.self.now.lat.now c.args.self.now.via_cost c.args.board.now
    c.close.new.board c.end_of-2.new.board c.keeps-2.ensures
    (closed_net c.args.self.now.lat.now c.args.self.now.via_cost c.args.net c.args.board.now c.close.new.board
    c.keeps.ensures c.close.ensures.joins) c.end_of-2.ensures.closes
