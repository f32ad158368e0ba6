use Rattle.board_gen.proofs.Orders.{range_next}
use Rattle.board_gen.proofs.Puts.{leads_on}
use Rattle.board_gen.proofs.text.put_places.Goals as goal

pub loop-site-preserved : goal.loop-site-preserved
loop-site-preserved c =
    let so_far = rw (range_next c.loop-site.site c.args.count c.loop-site-test.true) at c.loop-site.invariant in
    leads_on so_far c.in_ok-put_place.ensures
