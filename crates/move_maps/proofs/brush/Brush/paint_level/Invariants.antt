use Rattle.std.proofs.Common.{◌+◌, ◌*◌, length}
use Rattle.route_lattice.specs.Ways.{way_count}
use Rattle.move_maps.specs.Paint.{Paints}
use Rattle.move_maps.proofs.brush.Brush.paint_level.Given as goal

-- what was gone over is painted
abbrev pub invariant-loop-row : goal.invariant-loop-row
invariant-loop-row l =
    let s = l.self in let d = s.group.d in let m = s.group.lat in let a = way_count d m s.group.first in
    Paints s.stroke d m s.group.first s.item (l.level * length m.ys * length m.xs * a)
    ((l.level * length m.ys + l.row) * length m.xs * a) l.fn.counts l.counts
