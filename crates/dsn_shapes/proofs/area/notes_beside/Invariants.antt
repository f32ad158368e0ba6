use Rattle.std.proofs.Common.{◌≡◌, ◌≤◌, take, not}
use Rattle.std.specs.Prelude.{count_by}
use Rattle.dsn_shapes.specs.Lists.{is_word}
use Rattle.dsn_shapes.proofs.area.notes_beside.Given as goal

abbrev pub invariant-loop-item : goal.invariant-loop-item
invariant-loop-item l = (l.lists ≡ count_by (λ i. not (is_word i)) (take l.item-index l.item-items))
    × (l.lists ≤ l.item-index)
