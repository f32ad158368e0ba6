use Rattle.std.proofs.Common.{◌≡◌, ◌==◌, drop}
use Rattle.std.specs.List.{list_any}
use Rattle.board_offers.specs.declared.offer.Shoved.{Shoved}
use Rattle.board_offers.proofs.ids.is_shoved.Given as goal

abbrev pub invariant-loop-s : goal.invariant-loop-s
invariant-loop-s l =
    list_any (λ (s : Shoved). s.id == l.id) (drop l.s-index l.shoves)
    ≡ list_any (λ (s : Shoved). s.id == l.id) l.shoves
