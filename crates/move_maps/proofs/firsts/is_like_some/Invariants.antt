use Rattle.std.proofs.Common.{take, All}
use Rattle.std.proofs.Common.{ℕ}
use Rattle.move_maps.specs.Groups.{AreAlike}
use Rattle.move_maps.proofs.firsts.is_like_some.Given as goal

abbrev pub invariant-loop-first : goal.invariant-loop-first
invariant-loop-first l = All (λ (g : ℕ). ¬ (AreAlike l.d g l.net)) (take l.first-index l.firsts)
