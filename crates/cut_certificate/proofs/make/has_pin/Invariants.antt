use Rattle.std.proofs.Common.{◌≡◌, ◌==◌, ℕ, drop}
use Rattle.std.specs.List.{list_any}
use Rattle.cut_certificate.proofs.make.has_pin.Given as goal

abbrev pub invariant-loop-p : goal.invariant-loop-p
invariant-loop-p l =
    list_any (λ (y : ℕ). y == l.pin) (drop l.p-index l.p-items) ≡ list_any (λ (y : ℕ). y == l.pin) l.p-items
