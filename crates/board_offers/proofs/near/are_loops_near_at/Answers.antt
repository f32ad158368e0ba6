use Rattle.std.proofs.Common.{◌^◌, map, subst, sym, All, List, IsTrue, ◌↔◌}
use Rattle.geo_kernel.specs.declared.point.Point.{Point}
use Rattle.geo_kernel.specs.Plane.{IsWithin}
use Rattle.geo_kernel.specs.Moved.{moved}
use Rattle.pcb_model.proofs.Answered.{holds_here, passed_here, failed_mapped, mapped_passed}
use Rattle.board_offers.proofs.near.are_loops_near_at.Goals as goal

pub are_near_at-requires-clause-points_within : goal.are_near_at-requires-clause-points_within
are_near_at-requires-clause-points_within c =
    subst (All (IsWithin (2 ^ 29))) (sym c.as_slice.ensures)
    (holds_here (All (IsWithin (2 ^ 29))) c.args.loops.now c.loop-points.points-index c.points-item.result
    c.requires.loops_within c.loop-points-test.true c.points-item.is)

pub loop-points-preserved : goal.loop-points-preserved
loop-points-preserved c =
    let P : List Point → Type 0 = λ ps. All (IsWithin (2 ^ 29)) (map (moved c.args.at) ps) in
    passed_here P c.args.loops.now c.loop-points.points-index c.points-item.result c.loop-points-test.true
    c.points-item.is c.loop-points.invariant
    (subst P c.as_slice.ensures (c.are_near_at.ensures.0 c.if-not-are_near_at.false))

pub returns-then-not-are_near_at : goal.returns-then-not-are_near_at
returns-then-not-are_near_at c =
    let P : List Point → Type 0 = λ ps. IsTrue c.are_near_at.result ↔ All (IsWithin (2 ^ 29)) (map (moved c.args.at) ps)
    in
    failed_mapped (All (IsWithin (2 ^ 29))) (map (moved c.args.at)) c.args.loops.now c.loop-points.points-index
    c.points-item.result c.are_near_at.result c.loop-points-test.true c.points-item.is
    (subst P c.as_slice.ensures c.are_near_at.ensures) c.if-not-are_near_at.true

pub returns : goal.returns
returns c =
    mapped_passed (All (IsWithin (2 ^ 29))) (map (moved c.args.at)) c.args.loops.now c.loop-points.points-index
    c.loop-points-test.false c.loop-points.invariant
