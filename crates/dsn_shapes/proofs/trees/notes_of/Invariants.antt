use Rattle.std.proofs.Common.{◌≡◌, ◌≤◌, take}
use Rattle.std.specs.Prelude.{count_by}
use Rattle.dsn_shapes.specs.Lists.{is_note}
use Rattle.dsn_shapes.proofs.trees.notes_of.Given as goal

abbrev pub invariant-loop-item : goal.invariant-loop-item
invariant-loop-item l =
    (l.notes ≡ count_by (is_note l.kind) (take l.item-index l.item-items)) × (l.notes ≤ l.item-index)
