use Rattle.std.proofs.Common.{arith, subst, sym}
use Rattle.pcb_model.specs.Bounds.{IsItemFit}
use Rattle.copper_check.specs.Checks.{IsWithinEdges}
use Rattle.copper_check.proofs.Firsts.{first_bad, good_more}
use Rattle.copper_check.proofs.copper.first_outside.Goals as goal

pub loop-a-init : goal.loop-a-init
loop-a-init c = λ k x less. absurd (omega (arith, less))

pub returns-then-is_outside : goal.returns-then-is_outside
returns-then-is_outside c = first_bad (IsWithinEdges c.args.d.now) c.args.items.now c.loop-a.a-index c.a-item.result
    c.loop-a-test.true c.a-item.is c.requires.ascends c.loop-a.invariant c.if-is_outside.ensures.yes

pub loop-a-preserved : goal.loop-a-preserved
loop-a-preserved c = good_more (IsWithinEdges c.args.d.now) c.args.items.now c.loop-a.a-index c.a-item.result
    c.loop-a-test.true c.a-item.is c.loop-a.invariant c.if-is_outside.ensures.no

pub returns : goal.returns
returns c = λ k x within. c.loop-a.invariant k x (omega (arith, within, c.loop-a-test.false))

pub is_outside-requires-clause-fits : goal.is_outside-requires-clause-fits
is_outside-requires-clause-fits c =
    subst IsItemFit (sym c.a-item.is) (c.requires.fit c.loop-a.a-index c.a-item.result c.loop-a-test.true)
