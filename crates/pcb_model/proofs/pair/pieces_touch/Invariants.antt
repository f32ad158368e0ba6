use Rattle.std.proofs.Common.{take, All}
use Rattle.pcb_model.specs.Pairs.{TouchesSome}
use Rattle.pcb_model.proofs.pair.pieces_touch.Given as goal

abbrev pub invariant-loop-p : goal.invariant-loop-p
invariant-loop-p l = All (λ y. ¬ (TouchesSome l.rs y)) (take l.p-index l.ps)
