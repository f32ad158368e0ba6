use Rattle.std.proofs.Common.{◌≡◌, ◌≤◌, take}
use Rattle.std.specs.Prelude.{count_by}
use Rattle.dsn_shapes.specs.Lists.{trees_of}
use Rattle.dsn_network.specs.Classes.{is_stray}
use Rattle.dsn_network.proofs.classes.stray_names.Given as goal

abbrev pub invariant-loop-word : goal.invariant-loop-word
invariant-loop-word l =
    (l.count ≡ count_by (is_stray l.nets) (trees_of (take l.word-index l.words))) × (l.count ≤ l.word-index)
