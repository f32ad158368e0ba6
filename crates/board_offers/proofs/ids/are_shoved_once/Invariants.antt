use Rattle.std.proofs.Common.{◌≢◌, ℕ, map, take}
use Rattle.std.specs.List.{AllPairs}
use Rattle.board_offers.specs.declared.offer.Shoved.{Shoved}
use Rattle.board_offers.proofs.ids.are_shoved_once.Given as goal

abbrev pub invariant-loop-i : goal.invariant-loop-i
invariant-loop-i l = AllPairs (λ (x y : ℕ). x ≢ y) (map (λ (s : Shoved). s.id) (take l.i l.shoves))
