use Rattle.std.proofs.Common.{length, refl}
use Rattle.std.proofs.lemmas.Result.{IfOk-weaker}
use Rattle.closing_pass.specs.Closing.{AreEnds}
use Rattle.closing_pass.specs.Settled.{AreSettled}
use Rattle.closing_pass.specs.inner.Rounds.{AreSettledEnds}
use Rattle.closing_pass.proofs.Rounding.{closed_same}
use Rattle.closing_pass.proofs.join.Closer.close_board.Goals as goal

pub returns-in_err-search-clause-closes : goal.returns-in_err-search-clause-closes
returns-in_err-search-clause-closes c = closed_same c.args.self.now.lat.now c.args.self.now.via_cost c.args.board.now
    c.args.board.now c.keeps.ensures refl

pub returns-clause-closes : goal.returns-clause-closes
returns-clause-closes c = c.settle-ends.ensures.closes

pub returns-clause-ends : goal.returns-clause-ends
returns-clause-ends c =
    let m = c.args.self.now.lat.now in
    let cost = c.args.self.now.via_cost in
    let b = c.settle-ends.new.board in
    IfOk-weaker c.settle-ends.result (AreSettledEnds m cost c.args.self.now.tries b)
    (AreEnds b.design m cost b.items (length b.design.nets)) (λ ends h. h.ends_are) c.settle-ends.ensures.settled

pub returns-clause-settled : goal.returns-clause-settled
returns-clause-settled c =
    let m = c.args.self.now.lat.now in
    let cost = c.args.self.now.via_cost in
    let tries = c.args.self.now.tries in
    let b = c.settle-ends.new.board in
    IfOk-weaker c.settle-ends.result (AreSettledEnds m cost tries b) (AreSettled m cost tries b) (λ ends h. h.settled)
    c.settle-ends.ensures.settled
