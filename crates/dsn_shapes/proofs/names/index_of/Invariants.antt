use Rattle.std.proofs.Common.{◌≡◌, take}
use Rattle.dsn_shapes.specs.Lists.{heads_of, trees_of}
use Rattle.dsn_shapes.specs.Names.{names_at}
use Rattle.dsn_shapes.proofs.names.index_of.Given as goal

abbrev pub invariant-loop-tree : goal.invariant-loop-tree
invariant-loop-tree l = heads_of l.names.items ≡ names_at l.i (trees_of (take l.tree-index l.trees))
