use Rattle.std.proofs.Common.{◌+◌, ◌*◌, length}
use Rattle.route_lattice.specs.Ways.{way_count}
use Rattle.move_maps.specs.Paint.{IsFilled}
use Rattle.move_maps.proofs.start.push_level.Given as goal

-- the lines so far
abbrev pub invariant-loop-row : goal.invariant-loop-row
invariant-loop-row g l = let d = l.moves.d.now in let m = l.moves.lat.now in
    IsFilled d m l.moves.net ((l.level * length m.ys + l.row) * length m.xs * way_count d m l.moves.net) l.counts
