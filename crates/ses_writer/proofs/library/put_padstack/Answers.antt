use Rattle.ses_writer.specs.Session.{padstack_lines}
use Rattle.ses_writer.proofs.Puts.{then_put, put_last}
use Rattle.ses_writer.proofs.library.put_padstack.Goals as goal

pub returns : goal.returns
unfolding padstack_lines
returns c =
    let head = rw c.as_slice.ensures at c.in_ok-put_framed.ensures in
    let two = then_put head c.in_ok-put_shapes.ensures in
    put_last c.put.result _ _ two c.put.ensures
