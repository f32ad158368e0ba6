use Rattle.std.proofs.Common.{rules, arith, ◌≡◌, length, vec_len, Err, ℕ, List, refl, subst, sym}
use Rattle.route_words.specs.declared.command.Command.TheVariants.{Check}
use Rattle.dsn_design.specs.Reading.{ReadsDesign}
use Rattle.dsn_route.specs.Commands.{IsInput}
use Rattle.dsn_route.proofs.Checking.{FailsBy, input_unread}
use Rattle.dsn_route.proofs.Later.{design_stays, input_stays, stopped_before}
use Rattle.dsn_route.proofs.Unread.{lacks, unread}
use Rattle.dsn_route.proofs.check.check.Goals as goal

pub returns-in-Ok-read : goal.returns-in-Ok-read
returns-in-Ok-read g c =
    let text : IsInput c.args.input.now (g.D.Desk.state c.args.desk.now) c.in-Ok.text.items =
    record {
      file = rw c.as_str.ensures at c.in-Ok.ensures.gives.0;
      fits = let long : length c.in-Ok.text.items ≡ vec_len c.in-Ok.text = search rules in
          let fits = c.in-Ok.ensures.gives.1 in omega (arith, long, fits);
    } in
    stopped_before (Check c.args.input.now c.args.session.now c.args.report.now) _ _ _ _ _ c.check_session.result
    c.read.ensures.files c.read.ensures.faults c.read.ensures.calm
    (c.check_session.ensures c.args.input.now (design_stays c.args.input.now _ _ c.in-Ok-read.design
    c.read.ensures.files (record {
      text = c.in-Ok.text.items;
      is_text = text;
      reads = rw c.deref.ensures.value at c.in-Ok-read.ensures.reads;
    })))

pub returns-in-Some : goal.returns-in-Some
returns-in-Some g c =
    let text : IsInput c.args.input.now (g.D.Desk.state c.args.desk.now) c.in-Ok.text.items =
    record {
      file = rw c.as_str.ensures at c.in-Ok.ensures.gives.0;
      fits = let long : length c.in-Ok.text.items ≡ vec_len c.in-Ok.text = search rules in
          let fits = c.in-Ok.ensures.gives.1 in omega (arith, long, fits);
    } in
    stopped_before (Check c.args.input.now c.args.session.now c.args.report.now) _ _ _ _ _ c.end_refused.result
    c.read.ensures.files c.read.ensures.faults c.read.ensures.calm
    (unread (Check c.args.input.now c.args.session.now c.args.report.now) _ _ _ _ c.in-Ok.text.items
    c.in-Some.refusal (input_stays c.args.input.now c.in-Ok.text.items _ _ c.read.ensures.files text)
    (lacks c.in-Ok.text.items c.in-Err-read.fault c.in-Some.refusal
    (subst (λ (t : List ℕ). ReadsDesign t (Err c.in-Err-read.fault)) c.deref.ensures.value
    c.in-Err-read.ensures.reads) (sym c.in-Some.ensures)) c.end_refused.ensures)

pub returns-in-Err : goal.returns-in-Err
returns-in-Err g c =
    input_unread (Check c.args.input.now c.args.session.now c.args.report.now) c.args.input.now _ _ _ _ c.in-Err.fail
    c.end_unread.result refl c.read.ensures.files (subst (λ (n : List ℕ). FailsBy (g.D.Desk.state c.args.desk.now)
    (g.D.Desk.state c.read.new.self) n c.in-Err.fail) c.as_str.ensures c.in-Err.ensures.gives) c.end_unread.ensures
