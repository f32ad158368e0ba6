use Rattle.std.proofs.Common.{◌≡◌, take}
use Rattle.std.specs.Prelude.{map}
use Rattle.std.specs.List.{flat_map}
use Rattle.dsn_shapes.specs.Lists.{text_of, trees_of}
use Rattle.dsn_shapes.specs.Refusals.{noted}
use Rattle.dsn_structure.specs.Layout.{via_refusal}
use Rattle.dsn_structure.proofs.vias.copy_vias.Given as goal

abbrev pub invariant-loop-word : goal.invariant-loop-word
invariant-loop-word l =
    (l.first ≡ noted l.initial.first (flat_map (via_refusal l.known) (trees_of (take l.word-index l.words))))
    × (l.names ≡ map text_of (trees_of (take l.word-index l.words)))
