use Rattle.ses_writer.specs.Session.{resolution_line}
use Rattle.ses_writer.proofs.Puts.{then_put, put_last}
use Rattle.ses_writer.proofs.placement.put_resolution.Goals as goal

pub returns : goal.returns
unfolding resolution_line
returns c =
    let two = then_put c.in_ok-put_unit.ensures c.in_ok-put_whole.ensures in
    put_last c.put.result _ _ two c.put.ensures
