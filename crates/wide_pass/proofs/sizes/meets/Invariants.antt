use Rattle.std.proofs.Common.{take, All}
use Rattle.std.specs.Prelude.{Contains}
use Rattle.wide_pass.proofs.sizes.meets.Given as goal

abbrev pub invariant-loop-goal : goal.invariant-loop-goal
invariant-loop-goal l = All (λ g. Contains l.nodes g → ⊥) (take l.goal-index l.goals)
