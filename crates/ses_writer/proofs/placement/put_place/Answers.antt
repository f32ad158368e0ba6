use Rattle.ses_writer.specs.Session.{place_line}
use Rattle.ses_writer.proofs.Puts.{then_put, put_last}
use Rattle.ses_writer.proofs.placement.put_place.Goals as goal

pub returns : goal.returns
unfolding place_line
returns c =
    let placed = rw c.as_slice.ensures at c.in_ok-put_placed.ensures in
    let two = then_put placed c.in_ok-put_side.ensures in
    let three = then_put two c.in_ok-put_degrees.ensures in
    put_last c.put.result _ _ three c.put.ensures
