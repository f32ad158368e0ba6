use Rattle.std.proofs.Common.{rules, arith, ◌≡◌, length, vec_len, ℕ, List, subst, sym}
use Rattle.dsn_route.specs.Commands.{IsInput}
use Rattle.dsn_route.proofs.Checking.{FailsBy, judged_ends, report_unread}
use Rattle.dsn_route.proofs.check.check_report.Goals as goal

pub returns-in-Ok : goal.returns-in-Ok
returns-in-Ok g c = λ input session first second.
    let text : IsInput c.args.report.now (g.D.Desk.state c.args.desk.now) c.in-Ok.text.items =
    record {
      file = rw c.as_str.ensures at c.in-Ok.ensures.gives.0;
      fits = let long : length c.in-Ok.text.items ≡ vec_len c.in-Ok.text = search rules in
          let fits = c.in-Ok.ensures.gives.1 in omega (arith, long, fits);
    } in
    judged_ends input session c.args.report.now _ _ _ _ c.read.ensures.files c.args.d.now first c.args.items.now second
    c.requires.sound c.requires.items c.deref.result.now
    (subst (IsInput c.args.report.now (g.D.Desk.state c.args.desk.now)) (sym c.deref.ensures.value) text)
    c.end_judged.result c.judge.result c.judge.ensures c.end_judged.ensures

pub returns-in-Err : goal.returns-in-Err
returns-in-Err g c = λ input session first second.
    report_unread input session c.args.report.now _ _ _ _ c.read.ensures.files c.args.d.now first c.args.items.now
    second c.in-Err.fail c.end_unread.result (subst (λ (n : List ℕ). FailsBy (g.D.Desk.state c.args.desk.now)
    (g.D.Desk.state c.read.new.self) n c.in-Err.fail) c.as_str.ensures c.in-Err.ensures.gives) c.end_unread.ensures
