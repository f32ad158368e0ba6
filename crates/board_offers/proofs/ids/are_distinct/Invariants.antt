use Rattle.std.proofs.Common.{◌≢◌, ℕ, take}
use Rattle.std.specs.List.{AllPairs}
use Rattle.board_offers.proofs.ids.are_distinct.Given as goal

abbrev pub invariant-loop-i : goal.invariant-loop-i
invariant-loop-i l = AllPairs (λ (x y : ℕ). x ≢ y) (take l.i l.ids)
