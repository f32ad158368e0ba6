use Rattle.std.proofs.Common.{◌+◌, ◌*◌, refl}
use Rattle.std.proofs.lemmas.Bool.{OnTrue_at}
use Rattle.route_lattice.specs.Ways.{way_count}
use Rattle.route_lattice.specs.Legal.{probe_at}
use Rattle.move_maps.specs.Paint.{IsClearAt}
use Rattle.move_maps.proofs.Painting.{one_clear, one_top, not_clear, step_index}
use Rattle.move_maps.proofs.brush.Brush.paint_step.Goals as goal

pub returns-then-is_top : goal.returns-then-is_top
returns-then-is_top c =
    let s = c.args.self.now in let t = s.group in let v = c.args.spot.now.node in let i = c.args.dir in
    one_top s.stroke t.d t.lat t.first s.item v i (v * way_count t.d t.lat t.first + i)
    c.args.counts.now refl (step_index t.d t.lat t.first i c.requires.dir)
    (OnTrue_at c.if-is_top.true c.is_top.ensures)

pub returns-then-is_step_clear : goal.returns-then-is_step_clear
returns-then-is_step_clear c =
    let s = c.args.self.now in let t = s.group in let v = c.args.spot.now.node in let i = c.args.dir in
    one_clear s.stroke t.d t.lat t.first s.item v i c.args.counts.now
    (step_index t.d t.lat t.first i c.requires.dir) (c.is_step_clear.ensures.0 c.if-is_step_clear.true)

pub is_top-requires-clause-index : goal.is_top-requires-clause-index
is_top-requires-clause-index c =
    let t = c.args.self.now.group in step_index t.d t.lat t.first c.args.dir c.requires.dir

pub turn-requires-clause-index : goal.turn-requires-clause-index
turn-requires-clause-index c =
    let t = c.args.self.now.group in step_index t.d t.lat t.first c.args.dir c.requires.dir

pub turn-requires-clause-shut : goal.turn-requires-clause-shut
turn-requires-clause-shut c =
    let s = c.args.self.now in let t = s.group in
    not_clear c.is_step_clear.result
    (IsClearAt t.d t.first s.item (probe_at t.d t.lat t.first c.args.spot.now.node c.args.dir))
    c.is_step_clear.ensures c.if-is_step_clear.false
