use Rattle.std.proofs.Common.{◌≡◌, ◌∷◌, take}
use Rattle.std.specs.Prelude.{filter, codes}
use Rattle.dsn_tree.specs.Heads.{is_headed}
use Rattle.dsn_shapes.proofs.area.with_windows.Given as goal

abbrev pub invariant-loop-item : goal.invariant-loop-item
invariant-loop-item l = l.holders ≡ l.tree ∷ filter (is_headed (codes "window")) (take l.item-index l.item-items)
