use Rattle.std.proofs.Common.{take, All}
use Rattle.pcb_model.specs.Pairs.{PieceTouches}
use Rattle.pcb_model.specs.Pieces.{moved_piece}
use Rattle.pcb_model.proofs.pieces.moved_touches_some.Given as goal

abbrev pub invariant-loop-r : goal.invariant-loop-r
invariant-loop-r l = All (λ y. ¬ (PieceTouches (moved_piece l.by l.p) y)) (take l.r-index l.rs)
