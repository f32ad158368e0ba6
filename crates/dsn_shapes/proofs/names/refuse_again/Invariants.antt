use Rattle.std.proofs.Common.{◌≡◌, drop}
use Rattle.dsn_shapes.specs.Lists.{trees_of}
use Rattle.dsn_shapes.specs.Names.{given_again}
use Rattle.dsn_shapes.specs.Refusals.{noted}
use Rattle.dsn_shapes.proofs.names.refuse_again.Given as goal

abbrev pub invariant-loop-k : goal.invariant-loop-k
invariant-loop-k l = noted l.first (given_again l.i l.index l.k (trees_of (drop l.k l.trees)))
    ≡ noted l.initial.first (given_again l.i l.index 0 (trees_of l.trees))
