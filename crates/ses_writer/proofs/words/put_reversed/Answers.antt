use Rattle.std.proofs.Common.{pos}
use Rattle.geo_kernel.specs.declared.point.Point.{Point}
use Rattle.ses_writer.proofs.Puts.{leads_on}
use Rattle.ses_writer.proofs.Turned.{drop-reverse}
use Rattle.ses_writer.proofs.words.put_reversed.Goals as goal

pub loop-i-preserved : goal.loop-i-preserved
loop-i-preserved c =
    let origin : Point = record { x = pos 0; y = pos 0 } in
    let so_far = rw (drop-reverse c.args.points.now c.loop-i.i origin c.loop-i-test.true) at c.loop-i.invariant in
    leads_on so_far c.in_ok-put_point.ensures
