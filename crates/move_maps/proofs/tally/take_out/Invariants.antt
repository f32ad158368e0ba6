use Rattle.std.proofs.Common.{◌≡◌, ◌++◌, List, length, drop}
use Rattle.pcb_model.specs.declared.item.Item.{Item}
use Rattle.move_maps.specs.Paint.{AreTallied}
use Rattle.move_maps.proofs.tally.take_out.Given as goal

abbrev pub invariant-loop-item : goal.invariant-loop-item
invariant-loop-item l = (length l.counts ≡ length l.fn.counts)
    × ((kept : List Item) → AreTallied l.group.d l.group.lat l.group.first (l.gone ++ kept) l.fn.counts
    → AreTallied l.group.d l.group.lat l.group.first (drop l.item-index l.gone ++ kept) l.counts)
