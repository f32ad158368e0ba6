use Rattle.std.proofs.Common.{◌≡◌, ◌+◌, take}
use Rattle.dsn_shapes.specs.Lists.{trees_of}
use Rattle.dsn_shapes.specs.Names.{names_at}
use Rattle.dsn_network.specs.Pairs.{pair_count}
use Rattle.dsn_network.specs.declared.pairs.TheConstants.{MOST_PAIRS}
use Rattle.dsn_network.proofs.pairs.check_count.Given as goal

abbrev pub invariant-loop-tree : goal.invariant-loop-tree
invariant-loop-tree l =
    l.left + pair_count (names_at 1 l.classes.lists.now) (trees_of (take l.tree-index l.trees)) ≡ MOST_PAIRS
