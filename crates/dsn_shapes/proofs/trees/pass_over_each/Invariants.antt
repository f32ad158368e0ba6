use Rattle.std.proofs.Common.{◌≡◌, take}
use Rattle.dsn_shapes.specs.Lists.{capped, left_out_in, notes_in, trees_of}
use Rattle.dsn_shapes.specs.Refusals.{noted}
use Rattle.dsn_shapes.proofs.trees.pass_over_each.Given as goal

abbrev pub invariant-loop-tree : goal.invariant-loop-tree
invariant-loop-tree l = (l.first ≡ noted l.initial.first (left_out_in (trees_of (take l.tree-index l.trees))))
    × (l.notes ≡ capped (notes_in l.kind (trees_of (take l.tree-index l.trees))))
