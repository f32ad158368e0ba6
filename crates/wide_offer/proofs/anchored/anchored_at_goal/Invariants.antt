use Rattle.std.proofs.Common.{take, All}
use Rattle.wide_offer.proofs.Anchoring.{NotIn}
use Rattle.wide_offer.proofs.anchored.anchored_at_goal.Given as goal

abbrev pub invariant-loop-other : goal.invariant-loop-other
invariant-loop-other g l = All (NotIn l.on.d l.on.lat l.on.items l.node) (take l.other-index l.others)
