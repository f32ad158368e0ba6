use Rattle.std.proofs.Common.{◌^◌, ◌+ℤ◌, ◌∙◌, sym, subst}
use Rattle.geo_kernel.specs.declared.point.Rect4.{Rect4}
use Rattle.geo_kernel.specs.Boxes.{IsInBox}
use Rattle.geo_kernel.specs.Moved.{moved_spine}
use Rattle.geo_kernel.proofs.Growing.{box_is_of}
use Rattle.pcb_model.proofs.Extents.{spine_moved, sides_within}
use Rattle.pcb_model.proofs.Least.{moved_box_is}
use Rattle.pcb_model.proofs.near.moved_box.Goals as goal

pub shifted-requires : goal.shifted-requires
shifted-requires c =
    sides_within (2 ^ 29) c.args.by c.args.s.now c.box_of.result c.box_of.ensures c.requires.moved_within

pub returns-clause-has : goal.returns-clause-has
returns-clause-has c =
    let F : Rect4 → Type 0 = λ r. IsInBox r (moved_spine c.args.by c.args.s.now) in
    let r = c.box_of.result in
    let e = c.shifted.ensures in
    let t = c.shifted.result in
    subst F (sym (box_is_of t.x0 t.y0 t.x1 t.y1 (r.x0 +ℤ c.args.by.x) (r.y0 +ℤ c.args.by.y) (r.x1 +ℤ c.args.by.x)
    (r.y1 +ℤ c.args.by.y) e.x0 e.y0 e.x1 e.y1)) (spine_moved c.args.by r c.args.s.now c.box_of.ensures)

pub returns-clause-least : goal.returns-clause-least
returns-clause-least c =
    let r = c.box_of.result in
    let e = c.shifted.ensures in
    let t = c.shifted.result in
    box_is_of t.x0 t.y0 t.x1 t.y1 (r.x0 +ℤ c.args.by.x) (r.y0 +ℤ c.args.by.y) (r.x1 +ℤ c.args.by.x)
    (r.y1 +ℤ c.args.by.y)
    e.x0 e.y0 e.x1 e.y1
    ∙ moved_box_is c.args.by r c.args.s.now c.requires.moved_within c.box_of.ensures
