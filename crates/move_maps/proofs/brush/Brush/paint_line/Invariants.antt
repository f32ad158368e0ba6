use Rattle.std.proofs.Common.{◌+◌, ◌*◌, length}
use Rattle.route_lattice.specs.Ways.{way_count}
use Rattle.move_maps.specs.Paint.{Paints}
use Rattle.move_maps.proofs.brush.Brush.paint_line.Given as goal

-- what was gone over is painted
abbrev pub invariant-loop-column : goal.invariant-loop-column
invariant-loop-column l =
    let s = l.self in let d = s.group.d in let m = s.group.lat in let a = way_count d m s.group.first in
    let n = l.level * length m.ys + l.row in
    Paints s.stroke d m s.group.first s.item (n * length m.xs * a) ((n * length m.xs + l.column) * a) l.fn.counts
    l.counts
