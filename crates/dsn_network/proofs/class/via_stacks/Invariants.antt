use Rattle.std.proofs.Common.{◌≡◌, take}
use Rattle.std.specs.Prelude.{map}
use Rattle.std.specs.List.{flat_map}
use Rattle.dsn_shapes.specs.Lists.{trees_of}
use Rattle.dsn_shapes.specs.Refusals.{noted}
use Rattle.dsn_network.specs.Classes.{unknown_via, via_stack}
use Rattle.dsn_network.proofs.class.via_stacks.Given as goal

abbrev pub invariant-loop-word : goal.invariant-loop-word
invariant-loop-word l =
    (l.first ≡ noted l.initial.first (flat_map (unknown_via l.stacks) (trees_of (take l.word-index l.words))))
    × (l.vias ≡ map (via_stack l.stacks) (trees_of (take l.word-index l.words)))
