use Rattle.std.proofs.Common.{◌≡◌, take}
use Rattle.dsn_shapes.specs.Lists.{lists, heads_of, trees_of}
use Rattle.dsn_shapes.proofs.trees.lists_in.Given as goal

abbrev pub invariant-loop-tree : goal.invariant-loop-tree
invariant-loop-tree l = l.found ≡ lists (heads_of l.heads) (trees_of (take l.tree-index l.trees))
