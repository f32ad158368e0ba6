use Rattle.std.proofs.Common.{◌≡◌, ◌≤◌, take}
use Rattle.std.specs.Prelude.{count_by}
use Rattle.dsn_shapes.specs.Lists.{trees_of}
use Rattle.dsn_shapes.specs.Rules.{is_unknown, pairing_of}
use Rattle.dsn_shapes.proofs.rules.unknown_pairings.Given as goal

abbrev pub invariant-loop-tree : goal.invariant-loop-tree
invariant-loop-tree l = (l.count ≡ count_by (λ t. is_unknown (pairing_of t)) (trees_of (take l.tree-index l.trees)))
    × (l.count ≤ l.tree-index)
