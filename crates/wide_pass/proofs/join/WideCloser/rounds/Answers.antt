use Rattle.std.proofs.Common.{subst, sym}
use Rattle.closing_pass.specs.Closing.{CanClose}
use Rattle.wide_pass.proofs.Rounding.{back_on, design_on, falls_on, rounded_on}
use Rattle.wide_pass.proofs.join.WideCloser.rounds.Goals as goal

pub again-requires : goal.again-requires
again-requires c =
    subst (CanClose c.args.self.now.lat.now c.args.self.now.via_cost)
    (sym (design_on c.args.self.now.lat.now c.args.self.now.via_cost c.args.self.now.tries c.args.board
    c.loop-round.round c.loop-round.invariant)) c.requires

pub loop-round-preserved : goal.loop-round-preserved
loop-round-preserved c =
    rounded_on c.args.self.now.lat.now c.args.self.now.via_cost c.args.self.now.tries c.args.board c.loop-round.round
    c.in-Ok-again.next c.loop-round-test.true c.loop-round.invariant c.in-Ok-again.ensures.ok

pub loop-round-smaller : goal.loop-round-smaller
loop-round-smaller c =
    falls_on c.args.self.now.lat.now c.args.self.now.via_cost c.args.self.now.tries c.args.board c.loop-round.round
    c.in-Ok-again.next c.loop-round-test.true c.loop-round.invariant c.in-Ok-again.ensures.ok

pub returns-in-Err-again-clause-back : goal.returns-in-Err-again-clause-back
returns-in-Err-again-clause-back c =
    back_on c.args.self.now.lat.now c.args.self.now.via_cost c.args.self.now.tries c.args.board c.loop-round.round
    c.in-Err-again.back.board c.loop-round-test.true c.loop-round.invariant c.in-Err-again.ensures.back
