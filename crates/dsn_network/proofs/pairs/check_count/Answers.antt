use Rattle.std.specs.Prelude.{length}
use Rattle.dsn_shapes.specs.Names.{names_at}
use Rattle.dsn_network.specs.Pairs.{couples_of, pair_names}
use Rattle.dsn_network.proofs.Pairing.{count_more}
use Rattle.dsn_network.proofs.pairs.check_count.Goals as goal

pub loop-tree-preserved : goal.loop-tree-preserved
loop-tree-preserved c =
    count_more (λ t. length (couples_of (names_at 1 c.args.classes.now.lists.now) (pair_names t))) c.args.trees.now
    c.loop-tree.tree-index c.tree-item.result c.loop-tree.left c.in_ok-rest.rest _ c.loop-tree-test.true
    c.tree-item.is c.loop-tree.invariant c.in_ok-rest.ensures
