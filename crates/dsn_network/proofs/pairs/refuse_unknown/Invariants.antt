use Rattle.std.proofs.Common.{◌≡◌, take}
use Rattle.std.specs.List.{flat_map}
use Rattle.dsn_shapes.specs.Lists.{trees_of}
use Rattle.dsn_shapes.specs.Names.{names_at}
use Rattle.dsn_shapes.specs.Refusals.{noted}
use Rattle.dsn_network.specs.Pairs.{unknown_class}
use Rattle.dsn_network.proofs.pairs.refuse_unknown.Given as goal

abbrev pub invariant-loop-word : goal.invariant-loop-word
invariant-loop-word l =
    l.first ≡ noted l.initial.first
    (flat_map (unknown_class (names_at 1 l.classes.lists.now)) (trees_of (take l.word-index l.words)))
