use Rattle.std.proofs.Common.{◌∙◌, ap, sym}
use Rattle.dsn_placement.specs.Copper.{all_or_none, seat_point}
use Rattle.dsn_placement.proofs.Each.{all_made, none_made, not_made, one_made}
use Rattle.dsn_placement.proofs.copper.place_loops.Goals as goal

pub loop-points-init : goal.loop-points-init
loop-points-init c =
    none_made c.new-placed.result (all_or_none (all_or_none (seat_point c.args.seat)) c.args.loops.now)
    c.new-placed.ensures

pub returns-in-None : goal.returns-in-None
returns-in-None c =
    not_made (all_or_none (seat_point c.args.seat)) c.args.loops.now c.loop-points.points-index c.points-item.result
    c.loop-points.placed c.loop-points-test.true c.points-item.is
    (sym (c.in_ok-ps.ensures ∙ ap (all_or_none (seat_point c.args.seat)) c.as_slice.ensures) ∙ c.in-None.is)
    c.loop-points.invariant

pub loop-points-preserved : goal.loop-points-preserved
loop-points-preserved c =
    one_made (all_or_none (seat_point c.args.seat)) c.args.loops.now c.loop-points.points-index c.points-item.result
    c.in-Some.ps c.loop-points.placed c.push.new.self c.loop-points-test.true c.points-item.is
    (sym (c.in_ok-ps.ensures ∙ ap (all_or_none (seat_point c.args.seat)) c.as_slice.ensures) ∙ c.in-Some.is)
    c.in_ok-push-in-Some.ensures.ok c.loop-points.invariant

pub returns : goal.returns
returns c =
    all_made (all_or_none (seat_point c.args.seat)) c.args.loops.now c.loop-points.points-index c.loop-points.placed
    c.loop-points-test.false c.loop-points.invariant
