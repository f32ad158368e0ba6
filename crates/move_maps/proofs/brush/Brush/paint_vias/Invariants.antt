use Rattle.std.proofs.Common.{◌+◌, ◌*◌, length}
use Rattle.route_lattice.specs.Ways.{way_count}
use Rattle.move_maps.specs.Paint.{Paints}
use Rattle.move_maps.proofs.brush.Brush.paint_vias.Given as goal

-- what was gone over is painted
abbrev pub invariant-loop-number : goal.invariant-loop-number
invariant-loop-number l =
    let s = l.self in let d = s.group.d in let m = s.group.lat in
    let p = l.spot.node * way_count d m s.group.first in
    Paints s.stroke d m s.group.first s.item (p + 4) (p + (4 + l.number * length m.layers)) l.fn.counts l.counts
