use Rattle.std.proofs.Common.{sym, ap, ◌∙◌, true≢false, refl, All, Any, subst}
use Rattle.geo_kernel.specs.Spine.{loop_segments}
use Rattle.geo_kernel.specs.Close.{IsClose, IsMovable}
use Rattle.geo_kernel.proofs.Paths.{some_next, some_stops, none_told, at_place}
use Rattle.geo_kernel.proofs.close.CloseTo.is_area.Goals as goal

pub invariant_of-points-clause-movable : goal.invariant_of-points-clause-movable
invariant_of-points-clause-movable c =
    at_place (All (IsMovable c.args.area.now.by)) c.args.area.now.loops.now c.loop-points.points-index
    c.points-item.result _ c.args.area.now.movable c.loop-points-test.true (c.as_slice.ensures ∙ c.points-item.is)

pub returns-then-is_path : goal.returns-then-is_path
returns-then-is_path c =
    let P = IsClose c.args.self.now.how c.args.self.now.k.value
    (record { from = c.args.g.from.at; to = c.args.g.to.at }) in
    let e = c.closed.ensures.links ∙ ap loop_segments (c.as_slice.ensures ∙ c.points-item.is) in (
      λ t. some_stops P loop_segments c.args.area.now.loops.now c.loop-points.points-index c.points-item.result
          c.loop-points.invariant c.loop-points-test.true
          (subst (Any P) e (c.is_path.ensures.0 c.if-is_path.true)),
      λ h. refl,
    )

pub loop-points-preserved : goal.loop-points-preserved
loop-points-preserved c =
    let P = IsClose c.args.self.now.how c.args.self.now.k.value
    (record { from = c.args.g.from.at; to = c.args.g.to.at }) in
    let e = c.closed.ensures.links ∙ ap loop_segments (c.as_slice.ensures ∙ c.points-item.is) in
    some_next P loop_segments c.args.area.now.loops.now c.loop-points.points-index c.points-item.result
    c.loop-points.invariant c.loop-points-test.true
    (λ x. true≢false (sym (c.is_path.ensures.1 (subst (Any P) (sym e) x)) ∙ c.if-is_path.false))

pub returns : goal.returns
returns c =
    none_told (IsClose c.args.self.now.how c.args.self.now.k.value
    (record { from = c.args.g.from.at; to = c.args.g.to.at })) loop_segments c.args.area.now.loops.now
    c.loop-points.points-index c.loop-points.invariant c.loop-points-test.false
