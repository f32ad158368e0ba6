use Rattle.std.proofs.Common.{◌≡◌, take, ℕ, List}
use Rattle.dsn_shapes.specs.Index.{place_by}
use Rattle.dsn_shapes.specs.Lists.{heads_of}
use Rattle.dsn_shapes.specs.Names.{first_place}
use Rattle.dsn_shapes.proofs.names.places_of.Given as goal

abbrev pub invariant-loop-k : goal.invariant-loop-k
invariant-loop-k l = (q : List ℕ) → place_by l.places q ≡ first_place q (heads_of (take l.k l.names))
