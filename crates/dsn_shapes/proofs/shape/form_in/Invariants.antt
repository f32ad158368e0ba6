use Rattle.std.proofs.Common.{◌≡◌, drop}
use Rattle.std.specs.List.{find}
use Rattle.dsn_shapes.specs.Lists.{has_head}
use Rattle.dsn_shapes.specs.Known.{form_heads}
use Rattle.dsn_shapes.proofs.shape.form_in.Given as goal

abbrev pub invariant-loop-item : goal.invariant-loop-item
invariant-loop-item l =
    find (has_head form_heads) (drop l.item-index l.item-items) ≡ find (has_head form_heads) l.item-items
