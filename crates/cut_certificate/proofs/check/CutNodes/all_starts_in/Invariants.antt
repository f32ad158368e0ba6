use Rattle.std.proofs.Common.{take, All}
use Rattle.cut_certificate.specs.inner.Checks.{HoldsStartsOf}
use Rattle.cut_certificate.proofs.check.CutNodes.all_starts_in.Given as goal

abbrev pub invariant-loop-id : goal.invariant-loop-id
invariant-loop-id g l = All (HoldsStartsOf l.self.on l.self.net l.self.nodes.now) (take l.id-index l.ids)
