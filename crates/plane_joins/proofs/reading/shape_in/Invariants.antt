use Rattle.std.proofs.Common.{◌≡◌, drop}
use Rattle.std.specs.Prelude.{not}
use Rattle.std.specs.List.{find}
use Rattle.dsn_tree.specs.declared.tree.Tree.{Tree}
use Rattle.dsn_shapes.specs.Lists.{is_word}
use Rattle.plane_joins.proofs.reading.shape_in.Given as goal

abbrev pub invariant-loop-item : goal.invariant-loop-item
invariant-loop-item l =
    find (λ (i : Tree). not (is_word i)) (drop l.item-index l.item-items)
    ≡ find (λ (i : Tree). not (is_word i)) l.item-items
