use Rattle.std.proofs.Common.{ℕ, ◌≡◌, ◌+◌, ◌*◌, ◌<◌, ◌≤◌, ◌/◌, ◌%◌, arith}
use Rattle.std.proofs.lemmas.Nat.{div-add-mod', mod_below}
use Rattle.path_wire.proofs.laws.diagonal_prices_round_up.Goals as goal

least_from : (a q r : ℕ) → q * 1000000 + r ≡ a + 999999 → r < 1000000
    → (a ≤ q * 1000000) × (q * 1000000 < a + 1000000)
least_from a q r e small = (omega (arith, e, small), omega (arith, e, small))

pub returns : goal.returns
returns c = λ gap. let n = gap * 1414214 + 999999 in
    least_from (gap * 1414214) (n / 1000000) (n % 1000000) (div-add-mod' n 1000000) (mod_below n 1000000 (omega arith))
