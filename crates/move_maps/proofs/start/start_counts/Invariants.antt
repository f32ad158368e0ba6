use Rattle.std.proofs.Common.{◌*◌, length}
use Rattle.route_lattice.specs.Ways.{way_count}
use Rattle.move_maps.specs.Paint.{IsFilled}
use Rattle.move_maps.proofs.start.start_counts.Given as goal

-- the signal layers so far
abbrev pub invariant-loop-level : goal.invariant-loop-level
invariant-loop-level g l = let d = l.moves.d.now in let m = l.moves.lat.now in
    IsFilled d m l.moves.net (l.level * length m.ys * length m.xs * way_count d m l.moves.net) l.counts
