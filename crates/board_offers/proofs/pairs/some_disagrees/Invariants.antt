use Rattle.std.proofs.Common.{take, All}
use Rattle.pcb_model.specs.Pairs.{Agrees}
use Rattle.board_offers.proofs.pairs.some_disagrees.Given as goal

abbrev pub invariant-loop-a : goal.invariant-loop-a
invariant-loop-a l = All (λ a. Agrees l.d a l.b) (take l.a-index l.items)
