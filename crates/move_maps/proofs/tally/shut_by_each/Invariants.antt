use Rattle.std.proofs.Common.{take}
use Rattle.move_maps.specs.Paint.{Shuts}
use Rattle.move_maps.proofs.tally.shut_by_each.Given as goal

-- the items so far have shut what they shut
abbrev pub invariant-loop-item : goal.invariant-loop-item
invariant-loop-item l = Shuts l.group.d l.group.lat l.group.first (take l.item-index l.items) l.fn.counts l.counts
