use Rattle.std.proofs.Common.{rules, arith, ◌≡◌, length, vec_len, Err, ℕ, List, subst}
use Rattle.ses_reader.specs.Reading.{ReadsSession}
use Rattle.dsn_route.specs.Commands.{IsInput}
use Rattle.dsn_route.proofs.Checking.{FailsBy, misread_ends, session_unread}
use Rattle.dsn_route.proofs.Prior.{files_of}
use Rattle.dsn_route.proofs.Later.{from_before, read_stays, session_stays}
use Rattle.dsn_route.proofs.earlier.route_from.Goals as goal

pub route_started-requires-clause-read : goal.route_started-requires-clause-read
route_started-requires-clause-read g c = λ κs lives.
    read_stays c.args.command.now (g.D.Desk.state c.args.desk.now) (g.D.Desk.state c.read.new.self) c.args.design
    c.read.ensures.files c.requires.read

pub route_started-requires-clause-session : goal.route_started-requires-clause-session
route_started-requires-clause-session g c = λ κs lives.
    let text : IsInput c.args.old.now (g.D.Desk.state c.args.desk.now) c.in-Ok.text.items =
    record {
      file = rw c.as_str.ensures at c.in-Ok.ensures.gives.0;
      fits = let long : length c.in-Ok.text.items ≡ vec_len c.in-Ok.text = search rules in
          let fits = c.in-Ok.ensures.gives.1 in omega (arith, long, fits);
    } in
    record {
      name = c.args.old.now;
      name_is = c.requires.names;
      session = session_stays c.args.old.now (g.D.Desk.state c.args.desk.now) (g.D.Desk.state c.read.new.self)
          c.args.design c.in-Ok-read.items c.read.ensures.files (record {
            text = c.in-Ok.text.items;
            is_text = text;
            reads = rw c.deref.ensures.value at c.in-Ok-read.ensures.reads;
          });
    }

pub returns-in-Ok-read : goal.returns-in-Ok-read
returns-in-Ok-read g c =
    from_before c.args.command.now _ _ _ _ _ _ c.read.ensures.files c.read.ensures.faults c.read.ensures.calm
    c.route_started.ensures

pub returns-in-Err-read : goal.returns-in-Err-read
returns-in-Err-read g c =
    let text : IsInput c.args.old.now (g.D.Desk.state c.args.desk.now) c.in-Ok.text.items =
    record {
      file = rw c.as_str.ensures at c.in-Ok.ensures.gives.0;
      fits = let long : length c.in-Ok.text.items ≡ vec_len c.in-Ok.text = search rules in
          let fits = c.in-Ok.ensures.gives.1 in omega (arith, long, fits);
    } in
    let files = files_of c.args.command.now c.args.old.now _ c.args.design c.requires.names c.requires.read in
    rw c.unrouted.ensures (misread_ends c.args.command.now files.input c.args.old.now files.is_input
    files.is_session _ _ _ _ c.read.ensures.files c.args.design files.first c.in-Ok.text.items text c.end_misread.result
    c.in-Err-read.fault
    (subst (λ (t : List ℕ). ReadsSession t c.args.design (Err c.in-Err-read.fault)) c.deref.ensures.value
    c.in-Err-read.ensures.reads) c.end_misread.ensures)

pub returns-in-Err : goal.returns-in-Err
returns-in-Err g c =
    let files = files_of c.args.command.now c.args.old.now _ c.args.design c.requires.names c.requires.read in
    rw c.unrouted-in-Err.ensures (session_unread c.args.command.now files.input c.args.old.now files.is_input
    files.is_session _ _ _ _ c.read.ensures.files c.args.design files.first c.in-Err.fail c.end_unread.result
    (subst (λ (n : List ℕ). FailsBy (g.D.Desk.state c.args.desk.now) (g.D.Desk.state c.read.new.self) n c.in-Err.fail)
    c.as_str.ensures c.in-Err.ensures.gives) c.end_unread.ensures)
