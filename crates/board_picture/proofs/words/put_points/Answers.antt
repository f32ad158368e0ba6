use Rattle.std.proofs.Common.{get_or, pos, refl, flat_map}
use Rattle.std.proofs.lemmas.List.{get_or_default}
use Rattle.geo_kernel.specs.declared.point.Point.{Point}
use Rattle.board_picture.specs.Words.{point_words}
use Rattle.ses_writer.proofs.Puts.{with_next, at_end, leads_on, all_put}
use Rattle.board_picture.proofs.words.put_points.Goals as goal

pub loop-p-init : goal.loop-p-init
loop-p-init c = record { is = refl }

pub loop-p-preserved : goal.loop-p-preserved
loop-p-preserved c =
    let origin : Point = record { x = pos 0; y = pos 0 } in
    let now = get_or c.args.points.now c.loop-p.p-index origin in
    let same = get_or_default c.args.points.now c.loop-p.p-index origin now c.loop-p-test.true in
    let left = with_next (flat_map point_words) c.args.points.now c.loop-p.p-index now c.loop-p-test.true same
    c.loop-p.invariant in
    leads_on left c.in_ok-put_point.ensures

pub returns : goal.returns
returns c =
    all_put (at_end (flat_map point_words) c.args.points.now c.loop-p.p-index c.loop-p-test.false c.loop-p.invariant)
