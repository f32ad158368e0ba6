use Rattle.std.proofs.Common.{List, refl, subst, flat_map}
use Rattle.geo_kernel.specs.declared.point.Point.{Point}
use Rattle.ses_writer.specs.Words.{Appends, area_words, point_words}
use Rattle.ses_writer.proofs.Puts.{with_next, at_end, leads_on, all_put}
use Rattle.ses_writer.proofs.words.put_area.Goals as goal

pub loop-points-init : goal.loop-points-init
loop-points-init c = record { is = refl }

pub loop-points-preserved : goal.loop-points-preserved
loop-points-preserved c =
    let left = with_next (flat_map (flat_map (point_words c.args.nm))) c.as_slice-points-items.result.now
    c.loop-points.points-index c.points-item.result c.loop-points-test.true c.points-item.is
    c.loop-points.invariant in
    leads_on left (rw c.as_slice.ensures at c.in_ok-put_points.ensures)

pub returns : goal.returns
unfolding area_words
returns c =
    let F = flat_map (flat_map (point_words c.args.nm)) in
    let left = at_end F c.as_slice-points-items.result.now c.loop-points.points-index c.loop-points-test.false
    c.loop-points.invariant in
    subst (λ (ps : List (List Point)). Appends c.args.out.now.items c.loop-points.out.items (F ps))
    c.as_slice-points-items.ensures (all_put left)
