use Rattle.std.proofs.Common.{◌≡◌, take}
use Rattle.std.specs.Prelude.{sum_by, filter, codes}
use Rattle.dsn_tree.specs.Heads.{is_headed}
use Rattle.dsn_shapes.specs.Lists.{capped}
use Rattle.dsn_shapes.specs.Shapes.{notes_beside}
use Rattle.dsn_shapes.proofs.area.notes_of_windows.Given as goal

abbrev pub invariant-loop-item : goal.invariant-loop-item
invariant-loop-item l =
    l.notes ≡ capped (sum_by notes_beside (filter (is_headed (codes "window")) (take l.item-index l.all)))
