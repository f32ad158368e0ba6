use Rattle.std.proofs.Common.{◌≡◌, take}
use Rattle.std.specs.Prelude.{filter}
use Rattle.dsn_shapes.specs.Lists.{is_word}
use Rattle.dsn_shapes.proofs.trees.Trees.words.Given as goal

abbrev pub invariant-loop-item : goal.invariant-loop-item
invariant-loop-item l = l.words ≡ filter is_word (take l.item-index l.item-items)
