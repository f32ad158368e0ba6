use Rattle.std.proofs.Common.{◌≡◌, take}
use Rattle.std.specs.Prelude.{map}
use Rattle.std.specs.List.{flat_map}
use Rattle.dsn_shapes.specs.Lists.{trees_of}
use Rattle.dsn_shapes.specs.Refusals.{noted}
use Rattle.dsn_shapes.proofs.part.read_trees.Given as goal

abbrev pub invariant-loop-tree : goal.invariant-loop-tree
invariant-loop-tree g l =
    (l.first ≡ noted l.initial.first (flat_map (g.P.Part.refusals l.part) (trees_of (take l.tree-index l.trees))))
    × (l.values ≡ map (g.P.Part.value l.part) (trees_of (take l.tree-index l.trees)))
