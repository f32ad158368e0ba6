use Rattle.std.proofs.Common.{◌≡◌, take}
use Rattle.std.specs.Prelude.{map}
use Rattle.std.specs.List.{flat_map}
use Rattle.dsn_shapes.specs.Lists.{capped, trees_of}
use Rattle.dsn_shapes.specs.Refusals.{noted}
use Rattle.dsn_network.specs.Classes.{class_refusals, read_class_of}
use Rattle.dsn_network.specs.Whole.{rules_passed}
use Rattle.dsn_network.proofs.class.read_classes.Given as goal

abbrev pub invariant-loop-tree : goal.invariant-loop-tree
invariant-loop-tree l =
    (l.first ≡ noted l.initial.first
    (flat_map (class_refusals l.scale.nm l.stacks) (trees_of (take l.tree-index l.trees))))
    × (l.classes ≡ map (read_class_of l.scale.nm l.stacks) (trees_of (take l.tree-index l.trees)))
    × (l.notes ≡ capped (rules_passed (trees_of (take l.tree-index l.trees))))
