use Rattle.std.proofs.Common.{take, All}
use Rattle.pcb_model.specs.declared.item.Item.{Item}
use Rattle.pcb_model.specs.Board.{AreInside}
use Rattle.board_offers.proofs.clauses.lie_inside.Given as goal

abbrev pub invariant-loop-a : goal.invariant-loop-a
invariant-loop-a l = All (λ (a : Item). AreInside l.d.bounds a.pieces) (take l.a-index l.items)
