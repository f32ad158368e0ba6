use Rattle.std.proofs.Common.{◌≡◌, drop}
use Rattle.std.specs.Prelude.{filter, slice_get}
use Rattle.dsn_shapes.specs.Lists.{is_word}
use Rattle.dsn_shapes.proofs.lists.nth_word.Given as goal

abbrev pub invariant-loop-item : goal.invariant-loop-item
invariant-loop-item l = slice_get (filter is_word (drop l.item-index l.item-items)) l.left
    ≡ slice_get (filter is_word l.item-items) l.initial.left
