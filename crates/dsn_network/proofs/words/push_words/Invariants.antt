use Rattle.std.proofs.Common.{◌≡◌, ◌++◌, drop}
use Rattle.std.specs.Prelude.{filter}
use Rattle.dsn_shapes.specs.Lists.{is_word}
use Rattle.dsn_network.proofs.words.push_words.Given as goal

abbrev pub invariant-loop-item : goal.invariant-loop-item
invariant-loop-item l = l.found ++ drop l.left (filter is_word (drop l.item-index l.item-items)) ≡ l.initial.found
    ++ drop l.initial.left (filter is_word l.item-items)
