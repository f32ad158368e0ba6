use Rattle.std.proofs.Common.{arith}
use Rattle.report_form.proofs.Parts.{item_on}
use Rattle.report_form.proofs.Loops.{item_shorter}
use Rattle.report_form.proofs.cuts.after_items.Goals as goal

pub loop-taken-preserved : goal.loop-taken-preserved
loop-taken-preserved c =
    let gone = item_shorter c.in-Some.next.now c.loop-taken.left.now c.in-Some.ensures in record {
      read = λ p h ns w cs k page at early. item_on p h ns w cs k c.loop-taken.left.now c.in-Some.next.now page
          (c.loop-taken.invariant.read p h ns w cs k page at early) c.in-Some.ensures;
      shorter = omega (arith, gone, c.loop-taken.invariant.shorter);
    }
