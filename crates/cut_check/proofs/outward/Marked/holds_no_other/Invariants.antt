use Rattle.std.proofs.Common.{◌<◌, ℕ}
use Rattle.cut_check.specs.inner.Outs.{IsBeside}
use Rattle.cut_check.proofs.outward.Marked.holds_no_other.Given as goal

abbrev pub invariant-loop-j : goal.invariant-loop-j
invariant-loop-j g l = (j : ℕ) → j < l.j → IsBeside l.self.nodes l.anchors l.k j
