use Rattle.std.proofs.Common.{◌≡◌, ◌++◌, take}
use Rattle.dsn_shapes.specs.Lists.{trees_of}
use Rattle.dsn_structure.proofs.areas.push_all.Given as goal

abbrev pub invariant-loop-tree : goal.invariant-loop-tree
invariant-loop-tree l = l.all ≡ l.initial.all ++ trees_of (take l.tree-index l.trees)
