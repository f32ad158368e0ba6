use Rattle.ses_writer.specs.Session.{metal_line}
use Rattle.ses_writer.proofs.Puts.{then_put, put_last}
use Rattle.ses_writer.proofs.network.put_metal.Goals as goal

pub returns-in_ok-put_chain-in-Wire : goal.returns-in_ok-put_chain-in-Wire
unfolding metal_line
returns-in_ok-put_chain-in-Wire c =
    let run = rw c.layer_name-name.ensures at c.in_ok-put_run-in-Wire.ensures in
    let two = then_put run c.in_ok-put_chain-in-Wire.ensures in
    rw c.in-Wire.is (put_last c.put.result _ _ two c.put.ensures)

pub returns-in_ok-put_placed-in-Via : goal.returns-in_ok-put_placed-in-Via
unfolding metal_line
returns-in_ok-put_placed-in-Via c =
    let placed = rw c.padstack_name-name.ensures at c.in_ok-put_placed-in-Via.ensures in
    rw c.in-Via.is (put_last c.put-in-Via.result _ _ placed c.put-in-Via.ensures)
