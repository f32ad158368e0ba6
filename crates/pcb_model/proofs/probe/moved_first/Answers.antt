use Rattle.std.proofs.Common.{◌^◌, sym, subst, rules}
use Rattle.geo_kernel.specs.declared.point.Point.{Point}
use Rattle.geo_kernel.specs.Plane.{IsWithin}
use Rattle.geo_kernel.specs.Spine.{IsFirst}
use Rattle.geo_kernel.specs.Moved.{moved, moved_spine}
use Rattle.pcb_model.proofs.Boxed.{sum_value, sum_fits}
use Rattle.pcb_model.proofs.Inside.{point_is, moved_is_first, first_within}
use Rattle.pcb_model.proofs.probe.moved_first.Goals as goal

pub overflow_add-result : goal.overflow_add-result
overflow_add-result c =
    let s = moved_spine c.args.by c.args.p.now.spine in
    let first = c.first_point-first.result in
    let near = first_within (2 ^ 29) s (moved c.args.by first)
    (moved_is_first c.args.by c.args.p.now.spine first c.first_point-first.ensures.first)
    c.requires.moved_fit.within in sum_fits first.x c.args.by.x (search rules) (search rules) near.0

pub overflow_add-result-2 : goal.overflow_add-result-2
overflow_add-result-2 c =
    let s = moved_spine c.args.by c.args.p.now.spine in
    let first = c.first_point-first.result in
    let near = first_within (2 ^ 29) s (moved c.args.by first)
    (moved_is_first c.args.by c.args.p.now.spine first c.first_point-first.ensures.first)
    c.requires.moved_fit.within in sum_fits first.y c.args.by.y (search rules) (search rules) near.1

pub returns-clause-first : goal.returns-clause-first
returns-clause-first c =
    let F : Point → Type 0 = λ q. IsFirst (moved_spine c.args.by c.args.p.now.spine) q in
    let s = moved_spine c.args.by c.args.p.now.spine in
    let first = c.first_point-first.result in
    let is = moved_is_first c.args.by c.args.p.now.spine first c.first_point-first.ensures.first in
    let near = first_within (2 ^ 29) s (moved c.args.by first) is c.requires.moved_fit.within in
    subst F (sym
    (point_is _ _ (moved c.args.by first).x (moved c.args.by first).y
    (sum_value first.x c.args.by.x (search rules) (search rules) near.0)
    (sum_value first.y c.args.by.y (search rules) (search rules) near.1))) is

pub returns-clause-within : goal.returns-clause-within
returns-clause-within c =
    let s = moved_spine c.args.by c.args.p.now.spine in
    let first = c.first_point-first.result in
    let near = first_within (2 ^ 29) s (moved c.args.by first)
    (moved_is_first c.args.by c.args.p.now.spine first c.first_point-first.ensures.first)
    c.requires.moved_fit.within in
    subst (IsWithin (2 ^ 29)) (sym
    (point_is _ _ (moved c.args.by first).x (moved c.args.by first).y
    (sum_value first.x c.args.by.x (search rules) (search rules) near.0)
    (sum_value first.y c.args.by.y (search rules) (search rules) near.1))) near
