use Rattle.std.proofs.Common.{arith}
use Rattle.closing_pass.proofs.Counts.{counts_more, counts_none}
use Rattle.closing_pass.proofs.count.count_on.Goals as goal

pub loop-net-init : goal.loop-net-init
loop-net-init c =
    record { small = omega arith; are = counts_none c.args.snap.now.design c.args.snap.now.items }

pub loop-net-preserved : goal.loop-net-preserved
loop-net-preserved c = record {
  small = omega (arith, c.loop-net.invariant.small, c.in_ok-count.ensures.few);
  are = counts_more c.args.snap.now.design c.args.snap.now.items c.loop-net.net c.loop-net.count _
      c.loop-net.invariant.are c.in_ok-count.ensures.count;
}
