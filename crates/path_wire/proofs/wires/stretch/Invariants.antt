use Rattle.std.proofs.Common.{◌≡◌, ◌+◌, ◌++◌, ◌∷◌, map, drop, get_or}
use Rattle.route_lattice.specs.Mesh.{point_of}
use Rattle.path_wire.specs.Wires.{corners}
use Rattle.path_wire.proofs.wires.stretch.Given as goal

abbrev pub invariant-loop-i : goal.invariant-loop-i
invariant-loop-i l = l.points ++ map (point_of l.lat) (corners (drop (l.i + 1) l.nodes) (drop l.i l.moves))
    ≡ map (point_of l.lat) (get_or l.nodes 0 0 ∷ corners (drop 1 l.nodes) l.moves)
