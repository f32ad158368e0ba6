use Rattle.std.proofs.Common.{◌≡◌, take}
use Rattle.std.specs.List.{flat_map}
use Rattle.dsn_shapes.specs.Lists.{trees_of}
use Rattle.dsn_shapes.specs.Numbers.{extent_refusal}
use Rattle.dsn_shapes.specs.Rules.{plain_at, typed_at}
use Rattle.dsn_shapes.specs.Refusals.{noted}
use Rattle.dsn_shapes.proofs.rules.read_clearances.Given as goal

abbrev pub invariant-loop-tree : goal.invariant-loop-tree
invariant-loop-tree l =
    (l.first ≡ noted l.initial.first (flat_map (λ t. extent_refusal l.s.nm t 1) (trees_of (take l.tree-index l.trees))))
    × (l.clearances.plain ≡ flat_map (plain_at l.s.nm) (trees_of (take l.tree-index l.trees)))
    × (l.clearances.typed ≡ flat_map (typed_at l.s.nm) (trees_of (take l.tree-index l.trees)))
