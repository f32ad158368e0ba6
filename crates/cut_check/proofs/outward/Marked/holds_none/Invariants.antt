use Rattle.std.proofs.Common.{All, take}
use Rattle.std.specs.Prelude.{Contains}
use Rattle.cut_check.proofs.outward.Marked.holds_none.Given as goal

abbrev pub invariant-loop-node : goal.invariant-loop-node
invariant-loop-node g l = All (λ v. Contains l.self.nodes v → ⊥) (take l.node-index l.goals)
