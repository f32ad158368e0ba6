-- Powers of two.
use Rattle.std.proofs.Common.{◌≡◌, ◌<◌, ◌+◌, ◌-◌, ◌^◌, ◌∙◌, ap, ℕ, zero, suc, arith}
use Rattle.std.proofs.Math.Nat.{two-pow-succ}

-- a power of two is twice the one below it
pub twice_below : (n : ℕ) → 0 < n → 2 ^ n ≡ 2 ^ (n - 1) + 2 ^ (n - 1)
twice_below zero h = absurd (omega arith)
twice_below (suc n) h = let e : n ≡ suc n - 1 = omega arith in two-pow-succ n ∙ ap (λ k. 2 ^ k + 2 ^ k) e
