use Rattle.std.proofs.Common.{sym}
use Rattle.dsn_route.proofs.Unread.{unread, lacks}
use Rattle.dsn_route.proofs.route.route_text.Goals as goal

pub route_read-requires-clause-read : goal.route_read-requires-clause-read
route_read-requires-clause-read g c = λ κs lives.
    record { text = c.args.text.now; is_text = c.requires.is_text; reads = c.in-Ok.ensures.reads }

pub returns-in-Some : goal.returns-in-Some
returns-in-Some g c =
    rw c.unrouted.ensures (unread c.args.command.now _ _ _ _ c.args.text.now c.in-Some.refusal c.requires.is_text
    (lacks c.args.text.now c.in-Err.fault c.in-Some.refusal c.in-Err.ensures.reads (sym c.in-Some.ensures))
    c.end_refused.ensures)
