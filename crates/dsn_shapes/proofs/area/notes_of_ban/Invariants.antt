use Rattle.std.proofs.Common.{◌≡◌, ◌≤◌, take}
use Rattle.std.specs.Prelude.{count_by}
use Rattle.dsn_shapes.specs.Shapes.{is_beside}
use Rattle.dsn_shapes.proofs.area.notes_of_ban.Given as goal

abbrev pub invariant-loop-item : goal.invariant-loop-item
invariant-loop-item l = (l.beside ≡ count_by is_beside (take l.item-index l.item-items)) × (l.beside ≤ l.item-index)
