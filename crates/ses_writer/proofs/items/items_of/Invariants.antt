use Rattle.std.proofs.Common.{◌-◌, ◌^◌}
use Rattle.ses_writer.proofs.Listing.{AreBelow}
use Rattle.ses_writer.proofs.items.items_of.Given as goal

abbrev pub invariant-loop-item : goal.invariant-loop-item
invariant-loop-item l = AreBelow l.copper.items l.from l.items

abbrev pub decreases-loop-item : goal.decreases-loop-item
decreases-loop-item l = 2 ^ 64 - l.from
