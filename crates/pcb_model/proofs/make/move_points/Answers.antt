use Rattle.std.proofs.Common.{get_or, pos, map, ap, ◌∙◌}
use Rattle.std.proofs.lemmas.List.{get_or_default, take_all}
use Rattle.geo_kernel.specs.Moved.{moved}
use Rattle.pcb_model.proofs.Lookups.{mapped_more}
use Rattle.pcb_model.proofs.make.move_points.Goals as goal

pub loop-p-preserved : goal.loop-p-preserved
loop-p-preserved c =
    let ps = c.args.points.now in
    let i = c.loop-p.p-index in
    let p = get_or ps i (record { x = pos 0; y = pos 0 }) in
    c.in_ok-push.ensures.ok
    ∙ mapped_more (moved c.args.by) ps i p c.loop-p.moved c.move_point.result c.loop-p-test.true
    (get_or_default ps i (record { x = pos 0; y = pos 0 }) p c.loop-p-test.true) c.loop-p.invariant
    c.move_point.ensures

pub returns : goal.returns
returns c =
    c.loop-p.invariant ∙ ap (map (moved c.args.by)) (take_all c.loop-p.p-index c.args.points.now c.loop-p-test.false)
