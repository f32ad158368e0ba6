use Rattle.cut_check.specs.inner.Outs.{AreAnchoredBelow}
use Rattle.cut_check.proofs.anchors.anchors_of.Given as goal

abbrev pub invariant-loop-island : goal.invariant-loop-island
invariant-loop-island g l = AreAnchoredBelow l.on.d l.on.lat l.on.items l.own l.island-index l.anchors
