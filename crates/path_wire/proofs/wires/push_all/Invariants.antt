use Rattle.std.proofs.Common.{◌≡◌, ◌++◌, drop, true}
use Rattle.path_wire.specs.Wires.{copper_from}
use Rattle.path_wire.proofs.wires.push_all.Given as goal

abbrev pub invariant-loop-i : goal.invariant-loop-i
invariant-loop-i l = l.metals ++ copper_from l.lat l.width l.fresh (drop l.i l.nodes) (drop l.i l.moves)
    ≡ l.fn.metals ++ copper_from l.lat l.width true l.nodes l.moves
