use Rattle.std.proofs.Common.{◌≡◌, take}
use Rattle.dsn_shapes.specs.Lists.{trees_of}
use Rattle.dsn_structure.specs.Layout.{via_words}
use Rattle.dsn_structure.proofs.vias.via_words.Given as goal

abbrev pub invariant-loop-tree : goal.invariant-loop-tree
invariant-loop-tree l = l.found ≡ via_words (trees_of (take l.tree-index l.lists))
