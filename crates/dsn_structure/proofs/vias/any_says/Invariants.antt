use Rattle.std.proofs.Common.{◌≡◌, drop}
use Rattle.dsn_shapes.specs.Lists.{trees_of}
use Rattle.dsn_structure.specs.Layout.{any_says}
use Rattle.dsn_structure.proofs.vias.any_says.Given as goal

abbrev pub invariant-loop-tree : goal.invariant-loop-tree
invariant-loop-tree l =
    any_says l.keyword (trees_of (drop l.tree-index l.trees)) ≡ any_says l.keyword (trees_of l.trees)
