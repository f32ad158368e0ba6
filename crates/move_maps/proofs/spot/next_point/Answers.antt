use Rattle.std.proofs.Common.{◌≡◌, ℤ, ◌<◌, List, length, sym, ap, ◌∙◌, subst, arith}
use Rattle.route_lattice.specs.Mesh.{column, row}
use Rattle.route_lattice.proofs.Places.{row_below}
use Rattle.route_lattice.proofs.Windows.{column_below}
use Rattle.move_maps.specs.Spots.{line_after, line_before, next_point}
use Rattle.move_maps.proofs.Spotting.{right_next, left_next, above_next, below_next, across_told, up_told}
use Rattle.move_maps.proofs.spot.next_point.Goals as goal

pub line_after-requires : goal.line_after-requires
line_after-requires c =
    let m = c.args.lat.now in let s = c.args.s.now in let k = c.requires.spot in
    subst (λ n. n < length c.as_slice-xs.result.now) k.column_is
    (subst (λ (zs : List ℤ). column m s.node < length zs) (sym (c.as_slice-xs.ensures ∙ c.xs.ensures))
    (column_below m s.node k.there))

pub line_before-requires : goal.line_before-requires
line_before-requires c =
    let m = c.args.lat.now in let s = c.args.s.now in let k = c.requires.spot in
    subst (λ n. n < length c.as_slice-xs.result.now) k.column_is
    (subst (λ (zs : List ℤ). column m s.node < length zs) (sym (c.as_slice-xs.ensures ∙ c.xs.ensures))
    (column_below m s.node k.there))

pub line_after-requires-in-2 : goal.line_after-requires-in-2
line_after-requires-in-2 c =
    let m = c.args.lat.now in let s = c.args.s.now in let k = c.requires.spot in
    subst (λ n. n < length c.as_slice-ys.result.now) k.row_is
    (subst (λ (zs : List ℤ). row m s.node < length zs) (sym (c.as_slice-ys.ensures ∙ c.ys.ensures))
    (row_below (length m.xs) (length m.ys) (length m.layers) s.node k.there))

pub line_before-requires-in_default : goal.line_before-requires-in_default
line_before-requires-in_default c =
    let m = c.args.lat.now in let s = c.args.s.now in let k = c.requires.spot in
    subst (λ n. n < length c.as_slice-ys.result.now) k.row_is
    (subst (λ (zs : List ℤ). row m s.node < length zs) (sym (c.as_slice-ys.ensures ∙ c.ys.ensures))
    (row_below (length m.xs) (length m.ys) (length m.layers) s.node k.there))

pub returns-in-0 : goal.returns-in-0
returns-in-0 c =
    let m = c.args.lat.now in let s = c.args.s.now in let k = c.requires.spot in
    across_told m s.node 0 line_after s.at k.at_is c.as_slice-xs.result.now s.column c.line_after.result c.across.result
    c.line_after.ensures (right_next m s.node k.there) (c.as_slice-xs.ensures ∙ c.xs.ensures) k.column_is
    c.across.ensures ∙ ap (λ n. next_point m s.node n) (sym c.in-0.is)

pub returns-in-1 : goal.returns-in-1
returns-in-1 c =
    let m = c.args.lat.now in let s = c.args.s.now in let k = c.requires.spot in
    across_told m s.node 1 line_before s.at k.at_is c.as_slice-xs.result.now s.column c.line_before.result
    c.across-in-1.result c.line_before.ensures (left_next m s.node k.there) (c.as_slice-xs.ensures ∙ c.xs.ensures)
    k.column_is c.across-in-1.ensures ∙ ap (λ n. next_point m s.node n) (sym c.in-1.is)

pub returns-in-2 : goal.returns-in-2
returns-in-2 c =
    let m = c.args.lat.now in let s = c.args.s.now in let k = c.requires.spot in
    up_told m s.node 2 line_after s.at k.at_is c.as_slice-ys.result.now s.row c.line_after-in-2.result c.up.result
    c.line_after-in-2.ensures (above_next m s.node k.there) (c.as_slice-ys.ensures ∙ c.ys.ensures) k.row_is
    c.up.ensures ∙ ap (λ n. next_point m s.node n) (sym c.in-2.is)

pub returns-in_default : goal.returns-in_default
returns-in_default c =
    let m = c.args.lat.now in let s = c.args.s.now in let k = c.requires.spot in
    let three : 3 ≡ c.args.dir = omega (arith, c.in_default, c.requires.dir) in
    up_told m s.node 3 line_before s.at k.at_is c.as_slice-ys.result.now s.row c.line_before-in_default.result
    c.up-in_default.result c.line_before-in_default.ensures (below_next m s.node k.there)
    (c.as_slice-ys.ensures ∙ c.ys.ensures) k.row_is c.up-in_default.ensures ∙ ap (λ n. next_point m s.node n) three
