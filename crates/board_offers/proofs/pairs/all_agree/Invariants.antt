use Rattle.std.proofs.Common.{take}
use Rattle.std.specs.List.{AllPairs}
use Rattle.pcb_model.specs.Pairs.{Agrees}
use Rattle.board_offers.proofs.pairs.all_agree.Given as goal

abbrev pub invariant-loop-i : goal.invariant-loop-i
invariant-loop-i l = AllPairs (Agrees l.d) (take l.i l.items)
