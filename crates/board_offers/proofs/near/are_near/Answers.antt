use Rattle.std.proofs.Common.{◌^◌, get_or}
use Rattle.std.proofs.lemmas.List.{get_or_default}
use Rattle.geo_kernel.specs.Plane.{IsWithin}
use Rattle.pcb_model.specs.Sound.{origin}
use Rattle.pcb_model.proofs.Answered.{passed_here, failed_here, all_passed}
use Rattle.board_offers.proofs.near.are_near.Goals as goal

pub loop-p-preserved : goal.loop-p-preserved
loop-p-preserved c =
    let xs = c.args.points.now in
    let i = c.loop-p.p-index in
    passed_here (IsWithin (2 ^ 29)) xs i (get_or xs i origin) c.loop-p-test.true
    (get_or_default xs i origin (get_or xs i origin) c.loop-p-test.true) c.loop-p.invariant
    (c.is_near.ensures.0 c.if-not-is_near.false)

pub returns-then-not-is_near : goal.returns-then-not-is_near
returns-then-not-is_near c =
    let xs = c.args.points.now in
    let i = c.loop-p.p-index in
    failed_here (IsWithin (2 ^ 29)) xs i (get_or xs i origin) c.is_near.result c.loop-p-test.true
    (get_or_default xs i origin (get_or xs i origin) c.loop-p-test.true) c.is_near.ensures c.if-not-is_near.true

pub returns : goal.returns
returns c =
    all_passed (IsWithin (2 ^ 29)) c.args.points.now c.loop-p.p-index c.loop-p-test.false c.loop-p.invariant
