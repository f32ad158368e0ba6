use Rattle.std.proofs.Common.{◌≡◌, take}
use Rattle.std.specs.Prelude.{map}
use Rattle.std.specs.List.{flat_map}
use Rattle.dsn_shapes.specs.Lists.{trees_of}
use Rattle.dsn_shapes.specs.Numbers.{extent_at}
use Rattle.dsn_shapes.specs.Rules.{width_refusals}
use Rattle.dsn_shapes.specs.Refusals.{noted}
use Rattle.dsn_shapes.proofs.rules.read_widths.Given as goal

abbrev pub invariant-loop-tree : goal.invariant-loop-tree
invariant-loop-tree l =
    (l.first ≡ noted l.initial.first (flat_map (width_refusals l.s.nm) (trees_of (take l.tree-index l.trees))))
    × (l.widths ≡ map (λ t. extent_at l.s.nm t 1) (trees_of (take l.tree-index l.trees)))
