use Rattle.std.proofs.Common.{◌≡◌, take}
use Rattle.dsn_shapes.specs.Lists.{trees_of}
use Rattle.dsn_network.specs.Words.{words_in}
use Rattle.dsn_network.proofs.words.words_in.Given as goal

abbrev pub invariant-loop-tree : goal.invariant-loop-tree
invariant-loop-tree l = l.found ≡ words_in l.from (trees_of (take l.tree-index l.trees))
