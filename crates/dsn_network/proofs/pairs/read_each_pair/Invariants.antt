use Rattle.std.proofs.Common.{◌≡◌, take}
use Rattle.std.specs.List.{flat_map}
use Rattle.dsn_shapes.specs.Lists.{capped, trees_of}
use Rattle.dsn_shapes.specs.Names.{names_at}
use Rattle.dsn_shapes.specs.Refusals.{noted}
use Rattle.dsn_network.specs.Pairs.{pair_refusals, pairs_of}
use Rattle.dsn_network.specs.Whole.{rules_passed}
use Rattle.dsn_network.proofs.pairs.read_each_pair.Given as goal

abbrev pub invariant-loop-tree : goal.invariant-loop-tree
invariant-loop-tree l =
    (l.first ≡ noted l.initial.first
    (flat_map (pair_refusals l.scale.nm (names_at 1 l.classes.lists.now)) (trees_of (take l.tree-index l.trees))))
    × (l.pairs
    ≡ flat_map (pairs_of l.scale.nm (names_at 1 l.classes.lists.now)) (trees_of (take l.tree-index l.trees)))
    × (l.notes ≡ capped (rules_passed (trees_of (take l.tree-index l.trees))))
