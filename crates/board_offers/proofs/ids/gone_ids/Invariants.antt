use Rattle.std.proofs.Common.{◌≡◌, ◌++◌, map, take}
use Rattle.board_offers.specs.declared.offer.Shoved.{Shoved}
use Rattle.board_offers.proofs.ids.gone_ids.Given as goal

abbrev pub invariant-loop-s : goal.invariant-loop-s
invariant-loop-s l = l.ids.items ≡ l.offer.rip ++ map (λ (s : Shoved). s.id) (take l.s-index l.shoves)
