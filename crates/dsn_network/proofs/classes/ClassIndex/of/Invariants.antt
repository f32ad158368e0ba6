use Rattle.std.proofs.Common.{◌≡◌, take, ℕ, List}
use Rattle.dsn_shapes.specs.Index.{place_by}
use Rattle.dsn_shapes.specs.Lists.{trees_of}
use Rattle.dsn_network.specs.Classes.{last_naming}
use Rattle.dsn_network.proofs.classes.ClassIndex.of.Given as goal

abbrev pub invariant-loop-k : goal.invariant-loop-k
invariant-loop-k l = (q : List ℕ) → place_by l.last q ≡ last_naming q 0 (trees_of (take l.k l.trees))
