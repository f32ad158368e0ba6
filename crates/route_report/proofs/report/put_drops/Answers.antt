use Rattle.std.proofs.Common.{get_or, flat_map}
use Rattle.std.proofs.lemmas.List.{get_or_default}
use Rattle.ses_writer.proofs.Puts.{with_next, leads_on}
use Rattle.route_report.specs.Report.{drop_line}
use Rattle.route_report.proofs.report.put_drops.Goals as goal

pub loop-place-preserved : goal.loop-place-preserved
loop-place-preserved c =
    let places = c.args.places.now in
    let i = c.loop-place.place-index in
    let now = get_or places i 0 in
    let same = get_or_default places i 0 now c.loop-place-test.true in
    leads_on (with_next (flat_map drop_line) places i now c.loop-place-test.true same c.loop-place.invariant)
    c.in_ok-put_count.ensures
