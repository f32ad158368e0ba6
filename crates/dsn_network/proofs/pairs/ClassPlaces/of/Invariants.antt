use Rattle.std.proofs.Common.{◌≡◌, take, ℕ, List}
use Rattle.dsn_shapes.specs.Lists.{trees_of}
use Rattle.dsn_shapes.specs.Names.{names_at}
use Rattle.dsn_network.specs.Pairs.{places_named}
use Rattle.dsn_network.specs.Places.{places_by}
use Rattle.dsn_network.proofs.pairs.ClassPlaces.of.Given as goal

abbrev pub invariant-loop-k : goal.invariant-loop-k
invariant-loop-k l = (q : List ℕ) → places_by l.places q ≡ places_named q (names_at 1 (trees_of (take l.k l.trees)))
