use Rattle.std.proofs.Common.{rules, arith, ◌≡◌, length, vec_len, Err, ℕ, List, refl, subst}
use Rattle.route_words.specs.declared.command.Command.TheVariants.{Check}
use Rattle.ses_reader.specs.Reading.{ReadsSession}
use Rattle.dsn_route.specs.Commands.{IsInput}
use Rattle.dsn_route.proofs.Checking.{FailsBy, misread_ends, session_unread}
use Rattle.dsn_route.proofs.Later.{design_stays, session_stays, stopped_before}
use Rattle.dsn_route.proofs.check.check_session.Goals as goal

pub returns-in-Ok-read : goal.returns-in-Ok-read
returns-in-Ok-read g c = λ input first.
    let text : IsInput c.args.session.now (g.D.Desk.state c.args.desk.now) c.in-Ok.text.items =
    record {
      file = rw c.as_str.ensures at c.in-Ok.ensures.gives.0;
      fits = let long : length c.in-Ok.text.items ≡ vec_len c.in-Ok.text = search rules in
          let fits = c.in-Ok.ensures.gives.1 in omega (arith, long, fits);
    } in
    stopped_before (Check input c.args.session.now c.args.report.now) _ _ _ _ _ c.check_report.result
    c.read.ensures.files c.read.ensures.faults c.read.ensures.calm
    (c.check_report.ensures input c.args.session.now (design_stays input _ _ c.args.d.now c.read.ensures.files first)
    (session_stays c.args.session.now _ _ c.args.d.now c.in-Ok-read.items c.read.ensures.files (record {
      text = c.in-Ok.text.items;
      is_text = text;
      reads = rw c.deref.ensures.value at c.in-Ok-read.ensures.reads;
    })))

pub returns-in-Err-read : goal.returns-in-Err-read
returns-in-Err-read g c = λ input first.
    let text : IsInput c.args.session.now (g.D.Desk.state c.args.desk.now) c.in-Ok.text.items =
    record {
      file = rw c.as_str.ensures at c.in-Ok.ensures.gives.0;
      fits = let long : length c.in-Ok.text.items ≡ vec_len c.in-Ok.text = search rules in
          let fits = c.in-Ok.ensures.gives.1 in omega (arith, long, fits);
    } in
    misread_ends (Check input c.args.session.now c.args.report.now) input c.args.session.now refl refl _ _ _ _
    c.read.ensures.files c.args.d.now first
    c.in-Ok.text.items text c.end_misread.result c.in-Err-read.fault
    (subst (λ (t : List ℕ). ReadsSession t c.args.d.now (Err c.in-Err-read.fault)) c.deref.ensures.value
    c.in-Err-read.ensures.reads) c.end_misread.ensures

pub returns-in-Err : goal.returns-in-Err
returns-in-Err g c = λ input first.
    session_unread (Check input c.args.session.now c.args.report.now) input c.args.session.now refl refl _ _ _ _
    c.read.ensures.files c.args.d.now first
    c.in-Err.fail c.end_unread.result (subst (λ (n : List ℕ). FailsBy (g.D.Desk.state c.args.desk.now)
    (g.D.Desk.state c.read.new.self) n c.in-Err.fail) c.as_str.ensures c.in-Err.ensures.gives) c.end_unread.ensures
