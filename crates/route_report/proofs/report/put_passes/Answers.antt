use Rattle.std.proofs.Common.{List, ◌+◌, get_or, flat_map}
use Rattle.std.specs.List.{enumerate_from}
use Rattle.std.proofs.lemmas.List.{get_or_default}
use Rattle.ses_writer.proofs.Puts.{with_next, leads_on}
use Rattle.route_run.specs.declared.facts.PassLine.{PassLine}
use Rattle.route_report.specs.Report.{pass_line}
use Rattle.route_report.proofs.report.put_passes.Goals as goal

pub loop-i-preserved : goal.loop-i-preserved
loop-i-preserved c =
    let passes = c.args.passes.now in
    let i = c.loop-i.i in
    let none : PassLine = record { commits = 0; parted = 0 } in
    let now = get_or passes i none in
    let same = get_or_default passes i none now c.loop-i-test.true in
    let left = with_next (λ (ps : List PassLine). flat_map pass_line (enumerate_from (i + 1) ps)) passes i now
    c.loop-i-test.true same c.loop-i.invariant in
    leads_on left c.in_ok-put_pass.ensures
