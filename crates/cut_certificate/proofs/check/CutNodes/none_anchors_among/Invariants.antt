use Rattle.std.proofs.Common.{take, All}
use Rattle.cut_certificate.specs.inner.Checks.{HoldsNoneOf}
use Rattle.cut_certificate.proofs.check.CutNodes.none_anchors_among.Given as goal

abbrev pub invariant-loop-id : goal.invariant-loop-id
invariant-loop-id g l = All (HoldsNoneOf l.self.on l.self.nodes.now) (take l.id-index l.ids)
