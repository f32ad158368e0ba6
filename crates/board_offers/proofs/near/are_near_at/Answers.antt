use Rattle.std.proofs.Common.{◌^◌, get_or, IsTrue, ◌↔◌, subst}
use Rattle.std.proofs.lemmas.List.{get_or_default}
use Rattle.geo_kernel.specs.declared.point.Point.{Point}
use Rattle.geo_kernel.specs.Plane.{IsWithin}
use Rattle.geo_kernel.specs.Moved.{moved}
use Rattle.pcb_model.specs.Sound.{origin}
use Rattle.pcb_model.proofs.Answered.{holds_here, passed_here, failed_mapped, mapped_passed}
use Rattle.board_offers.proofs.near.are_near_at.Goals as goal

pub move_point-requires-clause-p_within : goal.move_point-requires-clause-p_within
move_point-requires-clause-p_within c =
    let xs = c.args.points.now in
    let i = c.loop-p.p-index in
    holds_here (IsWithin (2 ^ 29)) xs i (get_or xs i origin) c.requires.points_within c.loop-p-test.true
    (get_or_default xs i origin (get_or xs i origin) c.loop-p-test.true)

pub loop-p-preserved : goal.loop-p-preserved
loop-p-preserved c =
    let xs = c.args.points.now in
    let i = c.loop-p.p-index in
    passed_here (λ (p : Point). IsWithin (2 ^ 29) (moved c.args.at p)) xs i (get_or xs i origin) c.loop-p-test.true
    (get_or_default xs i origin (get_or xs i origin) c.loop-p-test.true) c.loop-p.invariant
    (subst (IsWithin (2 ^ 29)) c.move_point.ensures (c.is_near.ensures.0 c.if-not-is_near.false))

pub returns-then-not-is_near : goal.returns-then-not-is_near
returns-then-not-is_near c =
    let xs = c.args.points.now in
    let i = c.loop-p.p-index in
    failed_mapped (IsWithin (2 ^ 29)) (moved c.args.at) xs i (get_or xs i origin) c.is_near.result c.loop-p-test.true
    (get_or_default xs i origin (get_or xs i origin) c.loop-p-test.true)
    (subst (λ (p : Point). IsTrue c.is_near.result ↔ IsWithin (2 ^ 29) p) c.move_point.ensures c.is_near.ensures)
    c.if-not-is_near.true

pub returns : goal.returns
returns c =
    mapped_passed (IsWithin (2 ^ 29)) (moved c.args.at) c.args.points.now c.loop-p.p-index c.loop-p-test.false
    c.loop-p.invariant
