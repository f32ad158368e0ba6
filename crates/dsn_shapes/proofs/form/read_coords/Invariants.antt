use Rattle.std.proofs.Common.{◌≡◌, take}
use Rattle.std.specs.Prelude.{map}
use Rattle.std.specs.List.{flat_map}
use Rattle.dsn_shapes.specs.Lists.{trees_of}
use Rattle.dsn_shapes.specs.Numbers.{word_coord, word_coord_refusal}
use Rattle.dsn_shapes.specs.Refusals.{noted}
use Rattle.dsn_shapes.proofs.form.read_coords.Given as goal

abbrev pub invariant-loop-word : goal.invariant-loop-word
invariant-loop-word l =
    (l.first ≡ noted l.initial.first (flat_map (word_coord_refusal l.s.nm) (trees_of (take l.word-index l.words))))
    × (l.coords ≡ map (word_coord l.s.nm) (trees_of (take l.word-index l.words)))
