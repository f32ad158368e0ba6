use Rattle.std.proofs.Common.{◌≡◌, ◌==◌, ℕ, drop}
use Rattle.std.specs.List.{list_any}
use Rattle.board_offers.proofs.ids.is_named.Given as goal

abbrev pub invariant-loop-x : goal.invariant-loop-x
invariant-loop-x l = list_any (λ (y : ℕ). y == l.id) (drop l.x-index l.ids) ≡ list_any (λ (y : ℕ). y == l.id) l.ids
