use Rattle.std.proofs.Common.{take, All}
use Rattle.cut_certificate.specs.inner.Checks.{HoldsNoneOfIsland}
use Rattle.cut_certificate.proofs.check.CutNodes.islands_out.Given as goal

abbrev pub invariant-loop-other : goal.invariant-loop-other
invariant-loop-other g l =
    All (HoldsNoneOfIsland l.self.on l.self.nodes.now) (take l.other-index l.others)
