use Rattle.std.proofs.Common.{◌+◌, ◌*◌, length}
use Rattle.route_lattice.specs.Ways.{way_count}
use Rattle.move_maps.specs.Paint.{IsFilled}
use Rattle.move_maps.proofs.start.push_line.Given as goal

-- the nodes so far
abbrev pub invariant-loop-column : goal.invariant-loop-column
invariant-loop-column g l = let d = l.moves.d.now in let m = l.moves.lat.now in
    IsFilled d m l.moves.net
    (((l.level * length m.ys + l.row) * length m.xs + l.column) * way_count d m l.moves.net) l.counts
