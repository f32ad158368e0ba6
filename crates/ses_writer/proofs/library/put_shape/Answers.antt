use Rattle.ses_writer.specs.Session.{shape_line}
use Rattle.ses_writer.proofs.Puts.{then_put, put_last}
use Rattle.ses_writer.proofs.library.put_shape.Goals as goal

pub returns : goal.returns
unfolding shape_line
returns c =
    let run = rw (c.shape_front.ensures, c.layer_name-name.ensures) at c.in_ok-put_run.ensures in
    let two = then_put run c.in_ok-put_spine.ensures in
    put_last c.put.result _ _ two c.put.ensures
