use Rattle.std.proofs.Common.{◌+◌, ap, ◌∙◌, All, sym, true≢false, subst}
use Rattle.geo_kernel.specs.Spine.{Segment, is_right, loop_segments}
use Rattle.geo_kernel.specs.Close.{IsMovable, IsMovedOdd, moved_segment}
use Rattle.geo_kernel.proofs.Paths.{at_place, RestOdd, rest_odd_turns, rest_odd_stays, rest_odd_told}
use Rattle.geo_kernel.proofs.interior.is_odd_area.Goals as goal
use Rattle.geo_kernel.proofs.interior.is_odd_area.Goals.{then-is_odd_path, else-is_odd_path}

pub invariant_of-points-clause-movable : goal.invariant_of-points-clause-movable
invariant_of-points-clause-movable c =
    at_place (All (IsMovable c.args.area.now.by)) c.args.area.now.loops.now c.loop-points.points-index
    c.points-item.result _ c.args.area.now.movable c.loop-points-test.true (c.as_slice.ensures ∙ c.points-item.is)

pub loop-points-preserved : goal.loop-points-preserved
loop-points-preserved c =
    let by = c.args.area.now.by in
    let f = λ (g : Segment). is_right c.args.p.at (moved_segment by g) in
    let loops = c.args.area.now.loops.now in
    let i = c.loop-points.points-index in
    let e = c.closed.ensures.links ∙ ap loop_segments (c.as_slice.ensures ∙ c.points-item.is) in
    let told = rw c.closed.ensures.by at c.is_odd_path.ensures in
    elim c.if-is_odd_path.branch [
      | then-is_odd_path w ↦ subst (RestOdd f loop_segments loops (i + 1)) (sym w.odd-is)
          (rest_odd_turns f loop_segments loops i c.points-item.result c.loop-points.odd c.loop-points.invariant
          c.loop-points-test.true (subst (IsMovedOdd by c.args.p.at) e (told.0 w.if-is_odd_path.true)))
      | else-is_odd_path w ↦ subst (RestOdd f loop_segments loops (i + 1)) (sym w.odd-is)
          (rest_odd_stays f loop_segments loops i c.points-item.result c.loop-points.odd c.loop-points.invariant
          c.loop-points-test.true
          (λ h. true≢false
          (sym (told.1 (subst (IsMovedOdd by c.args.p.at) (sym e) h)) ∙ w.if-is_odd_path.false)))
    ]

pub returns : goal.returns
returns c =
    rest_odd_told (λ g. is_right c.args.p.at (moved_segment c.args.area.now.by g)) loop_segments
    c.args.area.now.loops.now c.loop-points.points-index c.loop-points.odd c.loop-points.invariant
    c.loop-points-test.false
