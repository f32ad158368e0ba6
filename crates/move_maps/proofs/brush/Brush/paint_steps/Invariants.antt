use Rattle.std.proofs.Common.{◌+◌, ◌*◌}
use Rattle.route_lattice.specs.Ways.{way_count}
use Rattle.move_maps.specs.Paint.{Paints}
use Rattle.move_maps.proofs.brush.Brush.paint_steps.Given as goal

-- what was gone over is painted
abbrev pub invariant-loop-dir : goal.invariant-loop-dir
invariant-loop-dir l =
    let s = l.self in let d = s.group.d in let m = s.group.lat in
    let p = l.spot.node * way_count d m s.group.first in
    Paints s.stroke d m s.group.first s.item p (p + l.dir) l.fn.counts l.counts
