use Rattle.std.proofs.Common.{◌≡◌, take}
use Rattle.std.specs.Prelude.{sum_by}
use Rattle.dsn_shapes.specs.Lists.{capped, trees_of}
use Rattle.dsn_shapes.specs.Shapes.{notes_beside}
use Rattle.dsn_shapes.proofs.area.shape_notes.Given as goal

abbrev pub invariant-loop-tree : goal.invariant-loop-tree
invariant-loop-tree l = l.notes ≡ capped (sum_by notes_beside (trees_of (take l.tree-index l.lists)))
