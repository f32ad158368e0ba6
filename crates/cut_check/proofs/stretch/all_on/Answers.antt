use Rattle.cut_certificate.proofs.Each.{each_false, each_more, each_true, unless}
use Rattle.cut_check.specs.Stretches.{IsOnLattice}
use Rattle.cut_check.proofs.stretch.all_on.Goals as goal

pub loop-s-preserved : goal.loop-s-preserved
loop-s-preserved c = each_more (IsOnLattice c.args.lat.now) c.args.runs.now c.loop-s.s-index _ c.loop-s-test.true
    c.loop-s.invariant (c.is_on.ensures.0 c.if-not-is_on.false)

pub returns : goal.returns
returns c = each_true (IsOnLattice c.args.lat.now) c.args.runs.now c.loop-s.s-index c.loop-s-test.false
    c.loop-s.invariant

pub returns-then-not-is_on : goal.returns-then-not-is_on
returns-then-not-is_on c = each_false (IsOnLattice c.args.lat.now) c.args.runs.now c.loop-s.s-index _
    c.loop-s-test.true (unless c.is_on.result _ c.is_on.ensures c.if-not-is_on.true)
