use Rattle.std.proofs.Common.{◌≡◌, take}
use Rattle.std.specs.Prelude.{map}
use Rattle.std.specs.List.{flat_map}
use Rattle.dsn_shapes.specs.Lists.{capped, trees_of}
use Rattle.dsn_shapes.specs.Refusals.{noted}
use Rattle.dsn_network.specs.Nets.{net_of, net_refusals}
use Rattle.dsn_network.specs.Whole.{rules_passed}
use Rattle.dsn_network.proofs.net.read_each_net.Given as goal

abbrev pub invariant-loop-tree : goal.invariant-loop-tree
invariant-loop-tree l =
    (l.first ≡ noted l.initial.first
    (flat_map (net_refusals l.scale.nm l.pins.lib.now l.pins.placing.now) (trees_of (take l.tree-index l.trees))))
    × (l.nets ≡ map (net_of l.scale.nm l.pins.lib.now l.pins.placing.now l.classes.lists.now)
    (trees_of (take l.tree-index l.trees))) × (l.notes ≡ capped (rules_passed (trees_of (take l.tree-index l.trees))))
