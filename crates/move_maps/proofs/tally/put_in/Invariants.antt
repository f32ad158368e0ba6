use Rattle.std.proofs.Common.{◌≡◌, ◌++◌, List, length, take}
use Rattle.pcb_model.specs.declared.item.Item.{Item}
use Rattle.move_maps.specs.Paint.{AreTallied}
use Rattle.move_maps.proofs.tally.put_in.Given as goal

-- the items so far have come
abbrev pub invariant-loop-item : goal.invariant-loop-item
invariant-loop-item l = (length l.counts ≡ length l.fn.counts)
    × ((kept : List Item) → AreTallied l.group.d l.group.lat l.group.first kept l.fn.counts
    → AreTallied l.group.d l.group.lat l.group.first (take l.item-index l.come ++ kept) l.counts)
