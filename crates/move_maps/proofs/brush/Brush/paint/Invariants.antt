use Rattle.std.proofs.Common.{◌*◌, length}
use Rattle.route_lattice.specs.Ways.{way_count}
use Rattle.move_maps.specs.Paint.{Paints}
use Rattle.move_maps.proofs.brush.Brush.paint.Given as goal

-- what was gone over is painted
abbrev pub invariant-loop-level : goal.invariant-loop-level
invariant-loop-level l =
    let s = l.self in let d = s.group.d in let m = s.group.lat in let a = way_count d m s.group.first in
    Paints s.stroke d m s.group.first s.item 0 (l.level * length m.ys * length m.xs * a) l.fn.counts l.counts
