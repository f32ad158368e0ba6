use Rattle.std.proofs.Common.{ℤ, ◌<◌, ◌%◌, ◌/◌, List, length, arith, sym, subst, ap, ◌∙◌}
use Rattle.route_lattice.specs.Mesh.{Mesh}
use Rattle.route_lattice.proofs.Steps.{size, mod_le, div_le, some_width, some_height, column_there, row_there}
use Rattle.route_lattice.proofs.mesh.Lattice.point.Goals as goal

pub nonzero_rem-result : goal.nonzero_rem-result
nonzero_rem-result c =
    some_width c.args.self.now c.args.node _ _
    (size _ _ _ c.len-width.ensures (ap (λ (m : Mesh). m.xs) c.self.view_is))
    (size _ _ _ c.len-height.ensures (ap (λ (m : Mesh). m.ys) c.self.view_is)) c.requires

pub nonzero_div-result : goal.nonzero_div-result
nonzero_div-result c =
    some_width c.args.self.now c.args.node _ _
    (size _ _ _ c.len-width.ensures (ap (λ (m : Mesh). m.xs) c.self.view_is))
    (size _ _ _ c.len-height.ensures (ap (λ (m : Mesh). m.ys) c.self.view_is)) c.requires

pub nonzero_rem-result-2 : goal.nonzero_rem-result-2
nonzero_rem-result-2 c =
    some_height c.args.self.now c.args.node _ _
    (size _ _ _ c.len-width.ensures (ap (λ (m : Mesh). m.xs) c.self.view_is))
    (size _ _ _ c.len-height.ensures (ap (λ (m : Mesh). m.ys) c.self.view_is)) c.requires

pub offset_bounds-as_slice-place : goal.offset_bounds-as_slice-place
offset_bounds-as_slice-place c =
    omega (arith, mod_le c.args.node c.len-width.result, c.ranges.node)

pub offset_bounds-as_slice-place-2 : goal.offset_bounds-as_slice-place-2
offset_bounds-as_slice-place-2 c =
    let some = some_width c.args.self.now c.args.node _ _
    (size _ _ _ c.len-width.ensures (ap (λ (m : Mesh). m.xs) c.self.view_is))
    (size _ _ _ c.len-height.ensures (ap (λ (m : Mesh). m.ys) c.self.view_is)) c.requires in
    omega (
      arith,
      mod_le (c.args.node / c.len-width.result) c.len-height.result,
      div_le c.args.node c.len-width.result some,
      c.ranges.node,
    )

pub bounds-as_slice-place : goal.bounds-as_slice-place
bounds-as_slice-place c =
    subst (λ (xs : List ℤ). c.args.node % c.len-width.result < length xs)
    (sym (c.as_slice.ensures ∙ ap (λ (m : Mesh). m.xs) c.self.view_is))
    (column_there c.args.self.now c.args.node _ _
    (size _ _ _ c.len-width.ensures (ap (λ (m : Mesh). m.xs) c.self.view_is))
    (size _ _ _ c.len-height.ensures (ap (λ (m : Mesh). m.ys) c.self.view_is)) c.requires)

pub bounds-as_slice-place-2 : goal.bounds-as_slice-place-2
bounds-as_slice-place-2 c =
    subst (λ (xs : List ℤ). c.args.node / c.len-width.result % c.len-height.result < length xs)
    (sym (c.as_slice-2.ensures ∙ ap (λ (m : Mesh). m.ys) c.self.view_is))
    (row_there c.args.self.now c.args.node _ _
    (size _ _ _ c.len-width.ensures (ap (λ (m : Mesh). m.xs) c.self.view_is))
    (size _ _ _ c.len-height.ensures (ap (λ (m : Mesh). m.ys) c.self.view_is)) c.requires)
