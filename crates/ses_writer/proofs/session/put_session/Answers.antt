use Rattle.ses_writer.specs.Session.{session_of}
use Rattle.ses_writer.proofs.Puts.{then_put, put_last}
use Rattle.ses_writer.proofs.session.put_session.Goals as goal

pub returns : goal.returns
unfolding session_of
returns c =
    let two = then_put c.in_ok-put_placement.ensures c.in_ok-put_routes.ensures in
    let scaled = rw c.pick-scale.ensures.value at two in
    put_last c.put.result _ _ scaled c.put.ensures
