use Rattle.std.proofs.Common.{All, take}
use Rattle.cut_certificate.specs.inner.Marks.{IsMarked}
use Rattle.cut_certificate.proofs.spread.any_marked.Given as goal

abbrev pub invariant-loop-s : goal.invariant-loop-s
invariant-loop-s l = All (λ s. IsMarked l.front.marks s → ⊥) (take l.s-index l.nodes)
