use Rattle.std.proofs.Common.{take, map, false}
use Rattle.board_offers.specs.declared.offer.Shoved.{Shoved}
use Rattle.pcb_board.specs.inner.Turning.{ArePut}
use Rattle.pcb_board.proofs.marks.clear_shoved.Given as goal

abbrev pub invariant-loop-s : goal.invariant-loop-s
invariant-loop-s l =
    ArePut (map (λ (s : Shoved). s.id) (take l.s-index l.shoves)) false l.initial.marks.items l.marks.items
