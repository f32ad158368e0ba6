use Rattle.std.proofs.Common.{◌≡◌, ℕ, ◌+◌, ◌*◌, ◌≤◌, ◌∙◌, List, All, length, sym, subst, arith}
use Rattle.route_lattice.specs.Mesh.{level}
use Rattle.route_lattice.specs.Ways.{vias_of, way_count}
use Rattle.move_maps.specs.declared.window.Window.{Window}
use Rattle.move_maps.specs.Paint.{AreFirstClear, Paints}
use Rattle.move_maps.specs.Windows.{IsPlaceOut}
use Rattle.move_maps.proofs.Painting.{node_off, goes_on}
use Rattle.move_maps.proofs.Spanning.{node_out}
use Rattle.move_maps.proofs.brush.Brush.paint_crossing.Goals as goal

over : (n : ℕ) → n ≤ n + 4
over n = omega arith

rest : (n k : ℕ) → n + 4 ≤ n + (4 + k)
rest n k = omega arith

last : (v a : ℕ) → v * a + a ≡ (v + 1) * a
last v a = omega arith

pub returns-then-is_out : goal.returns-then-is_out
returns-then-is_out c =
    let s = c.args.self.now in let t = s.group in
    let Out : List Window → Type 0 = λ ws. All (λ (w : Window). IsPlaceOut w c.args.crossing.column
    c.args.crossing.row) ws in
    let out : Out s.windows = c.is_out.ensures.0 c.if-is_out.true in
    node_off s.stroke t.d t.lat t.first s.item c.args.crossing.node c.args.counts.now (λ i h.
    c.told.ensures.together.each c.args.crossing.node i c.requires.crossing.there h
    (node_out t.lat s.windows c.args.crossing.node c.args.crossing.column c.args.crossing.row
    c.requires.crossing.column_is c.requires.crossing.row_is
    out))

pub paint_steps-requires-clause-clear : goal.paint_steps-requires-clause-clear
paint_steps-requires-clause-clear c =
    let s = c.args.self.now in let t = s.group in
    subst (λ v. AreFirstClear t.d t.lat t.first s.item (level t.lat v) c.args.first)
    (sym c.spot-spot.ensures.node) c.requires.clear

pub paint_vias-requires-clause-size : goal.paint_vias-requires-clause-size
paint_vias-requires-clause-size c = c.paint_steps.ensures.size ∙ c.requires.size

pub returns : goal.returns
returns c =
    let s = c.args.self.now in let t = s.group in let m = t.lat in
    let a = way_count t.d m t.first in
    let v = c.spot-spot.result.node in
    subst (λ v. Paints s.stroke t.d m t.first s.item (v * a) ((v + 1) * a) c.args.counts.now
    c.paint_vias.new.counts) c.spot-spot.ensures.node
    (goes_on s.stroke t.d m t.first s.item (v * a) (v * a + 4) (v * a + a) ((v + 1) * a) c.args.counts.now
    c.paint_steps.new.counts c.paint_vias.new.counts (over (v * a))
    (rest (v * a) (length (vias_of t.d t.first) * length m.layers)) (last v a) c.paint_steps.ensures
    c.paint_vias.ensures)
