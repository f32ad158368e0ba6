use Rattle.std.proofs.Common.{arith}
use Rattle.copper_check.specs.Checks.{IsLaidWell}
use Rattle.copper_check.proofs.Firsts.{first_bad, good_more}
use Rattle.copper_check.proofs.copper.first_ill_laid.Goals as goal

pub loop-a-init : goal.loop-a-init
loop-a-init c = λ k x less. absurd (omega (arith, less))

pub returns-then-is_ill_laid : goal.returns-then-is_ill_laid
returns-then-is_ill_laid c = first_bad (IsLaidWell c.args.d.now) c.args.items.now c.loop-a.a-index c.a-item.result
    c.loop-a-test.true c.a-item.is c.requires.ascends c.loop-a.invariant c.if-is_ill_laid.ensures.yes

pub loop-a-preserved : goal.loop-a-preserved
loop-a-preserved c = good_more (IsLaidWell c.args.d.now) c.args.items.now c.loop-a.a-index c.a-item.result
    c.loop-a-test.true c.a-item.is c.loop-a.invariant c.if-is_ill_laid.ensures.no

pub returns : goal.returns
returns c = λ k x within. c.loop-a.invariant k x (omega (arith, within, c.loop-a-test.false))
