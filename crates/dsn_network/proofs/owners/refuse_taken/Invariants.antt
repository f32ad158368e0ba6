use Rattle.std.proofs.Common.{◌≡◌, drop}
use Rattle.dsn_shapes.specs.Lists.{trees_of}
use Rattle.dsn_shapes.specs.Refusals.{noted}
use Rattle.dsn_network.specs.Nets.{taken_from}
use Rattle.dsn_network.specs.Owners.{pins_of}
use Rattle.dsn_network.proofs.owners.refuse_taken.Given as goal

abbrev pub invariant-loop-k : goal.invariant-loop-k
invariant-loop-k l =
    noted l.first (taken_from l.pins.lib.now l.pins.placing.now (pins_of l.owners) l.k (trees_of (drop l.k l.nets)))
    ≡ noted l.initial.first (taken_from l.pins.lib.now l.pins.placing.now (pins_of l.owners) 0 (trees_of l.nets))
