use Rattle.std.proofs.Common.{◌≡◌, ◌≤◌, ◌<◌, ◌+◌, ◌*◌, arith, drop, length, length-drop}
use Rattle.std.proofs.lemmas.List.{append-nil}
use Rattle.board_gen.proofs.Orders.{nets_end, nets_next}
use Rattle.board_gen.proofs.Puts.{leads_on}
use Rattle.board_gen.proofs.text.put_nets.Goals as goal

pub loop-net-preserved : goal.loop-net-preserved
loop-net-preserved c =
    let net = c.loop-net.net in
    let within : 2 * net + 1 < length c.args.order.now = omega arith in
    let so_far = rw (nets_next net (2 * net) c.args.order.now within) at c.loop-net.invariant in
    let on : 2 * net + 2 ≡ 2 * (net + 1) = omega arith in
    rw (← on) (leads_on so_far c.in_ok-put_net.ensures)

pub returns : goal.returns
returns c =
    let order = c.args.order.now in
    let few : length (drop (2 * c.loop-net.net) order) ≤ 1 = omega (arith, length-drop (2 * c.loop-net.net) order) in
    let none = nets_end c.loop-net.net (drop (2 * c.loop-net.net) order) few in
    let so_far = rw (none, append-nil c.loop-net.out.items) at c.loop-net.invariant.is in
    record { is = so_far }
