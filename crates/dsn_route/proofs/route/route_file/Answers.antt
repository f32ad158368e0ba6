use Rattle.std.proofs.Common.{ℕ, List, subst}
use Rattle.dsn_route.proofs.Checking.{FailsBy, input_unread}
use Rattle.dsn_route.proofs.Later.{from_before}
use Rattle.dsn_route.proofs.route.route_file.Goals as goal

pub returns-in-Ok : goal.returns-in-Ok
returns-in-Ok g c =
    from_before c.args.command.now _ _ _ _ _ _ c.read.ensures.files c.read.ensures.faults c.read.ensures.calm
    c.route_text.ensures

pub returns-in-Err : goal.returns-in-Err
returns-in-Err g c =
    rw c.unrouted.ensures (input_unread c.args.command.now _ _ _ _ _ c.in-Err.fail c.end_unread.result c.requires.names
    c.read.ensures.files (subst (λ (n : List ℕ). FailsBy (g.D.Desk.state c.args.desk.now)
    (g.D.Desk.state c.read.new.self) n c.in-Err.fail) c.as_str.ensures c.in-Err.ensures.gives) c.end_unread.ensures)
