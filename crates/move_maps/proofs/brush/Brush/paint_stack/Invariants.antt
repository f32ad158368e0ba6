use Rattle.std.proofs.Common.{◌+◌, ◌*◌, length}
use Rattle.route_lattice.specs.Ways.{way_count}
use Rattle.move_maps.specs.Paint.{Paints}
use Rattle.move_maps.proofs.brush.Brush.paint_stack.Given as goal

-- what was gone over is painted
abbrev pub invariant-loop-level : goal.invariant-loop-level
invariant-loop-level l =
    let s = l.self in let d = s.group.d in let m = s.group.lat in
    let p = l.spot.node * way_count d m s.group.first in
    let f = 4 + l.number * length m.layers in
    Paints s.stroke d m s.group.first s.item (p + f) (p + (f + l.level)) l.fn.counts l.counts
