use Rattle.std.proofs.Common.{◌≡◌, ◌<◌, ℕ, ℤ, pos, List, length, sym, ap, ◌∙◌, subst, slice_index_or}
use Rattle.std.specs.Prelude.{slice_index}
use Rattle.route_lattice.proofs.Places.{row_below, level_below}
use Rattle.route_lattice.proofs.Windows.{column_below}
use Rattle.move_maps.specs.Starts.{crossing}
use Rattle.move_maps.proofs.Spotting.{spot_of, point_is}
use Rattle.move_maps.proofs.spot.Spot.of.Goals as goal

pub crossing_at-requires-clause-row : goal.crossing_at-requires-clause-row
crossing_at-requires-clause-row c =
    let m = c.args.lat.now in
    subst (λ (zs : List ℤ). c.args.crossing.row < length zs) (sym (c.as_slice-2.ensures ∙ c.ys.ensures))
    (subst (λ n. n < length m.ys) c.requires.row_is
    (row_below (length m.xs) (length m.ys) (length m.layers) c.args.crossing.node c.requires.there))

pub crossing_at-requires-clause-column : goal.crossing_at-requires-clause-column
crossing_at-requires-clause-column c =
    let m = c.args.lat.now in
    subst (λ (zs : List ℤ). c.args.crossing.column < length zs) (sym (c.as_slice.ensures ∙ c.xs.ensures))
    (subst (λ n. n < length m.xs) c.requires.column_is (column_below m c.args.crossing.node c.requires.there))

pub bounds-layers-crossing : goal.bounds-layers-crossing
bounds-layers-crossing c =
    let m = c.args.lat.now in
    subst (λ (ls : List ℕ). c.args.crossing.level < length ls) (sym (c.as_slice-layers.ensures ∙ c.layers.ensures))
    (subst (λ n. n < length m.layers) c.requires.level_is
    (level_below (length m.xs) (length m.ys) (length m.layers) c.args.crossing.node c.requires.there))

pub returns-clause-spot : goal.returns-clause-spot
returns-clause-spot c =
    let m = c.args.lat.now in
    let i = c.args.crossing.column in
    let j = c.args.crossing.row in
    let l = c.args.crossing.level in
    let ex : c.as_slice.result.now ≡ m.xs = c.as_slice.ensures ∙ c.xs.ensures in
    let ey : c.as_slice-2.result.now ≡ m.ys = c.as_slice-2.ensures ∙ c.ys.ensures in
    let el : c.as_slice-layers.result.now ≡ m.layers = c.as_slice-layers.ensures ∙ c.layers.ensures in
    spot_of m
    (record {
      node = c.args.crossing.node;
      row = j;
      column = i;
      at = c.crossing_at.result;
      layer = slice_index c.as_slice-layers.result.now l;
    }) l c.requires.there c.requires.level_is c.requires.row_is c.requires.column_is
    (point_is c.crossing_at.result (crossing m j i)
    (c.crossing_at.ensures.x ∙ ap (λ (zs : List ℤ). slice_index_or zs i (pos 0)) ex)
    (c.crossing_at.ensures.y ∙ ap (λ (zs : List ℤ). slice_index_or zs j (pos 0)) ey))
    (ap (λ (ls : List ℕ). slice_index ls l) el)
