use Rattle.ses_writer.specs.Session.{routes_part}
use Rattle.ses_writer.proofs.Puts.{then_put, put_last}
use Rattle.ses_writer.proofs.session.put_routes.Goals as goal

pub returns : goal.returns
unfolding routes_part
returns c =
    let two = then_put c.in_ok-put.ensures c.in_ok-put_resolution.ensures in
    let three = then_put two c.in_ok-put_parser.ensures in
    let four = then_put three c.in_ok-put-2.ensures in
    let five = then_put four c.in_ok-put_library.ensures in
    let six = then_put five c.in_ok-put-3.ensures in
    let seven = then_put six c.in_ok-put_network.ensures in
    put_last c.put-4.result _ _ seven c.put-4.ensures
