-- Least numbers at which something fails.
use Rattle.std.proofs.Common.{◌≡◌, ℕ, ◌<◌, ◌≤◌, Bool, true, false, Option, Some, None, refl, arith}
use Rattle.std.specs.Prelude.{nat_le, if◌then◌else◌}
use Rattle.std.proofs.lemmas.Bool.{leb-true, leb-false}
use Rattle.board_offers.specs.Troubles.{FailsLeast}
use Rattle.board_offers.specs.inner.Searching.{least_of}

-- where each says what the other does
pub least_same : (A B : ℕ → Type 0) → ((x : ℕ) → A x → B x) → ((x : ℕ) → B x → A x) → (r : Option ℕ) → FailsLeast A r
    → FailsLeast B r
least_same A B to back None h = λ x. to x (h x)
least_same A B to back (Some x) h = (λ k. h.0 (back x k), λ y less. to y (h.1 y less))

abbrev Both : (ℕ → Type 0) → (ℕ → Type 0) → ℕ → Type 0
Both A B x = A x × B x

-- the lesser of the least at which one fails and the least at which the other does
pub least_both : (A B : ℕ → Type 0) (r s : Option ℕ) → FailsLeast A r → FailsLeast B s
    → FailsLeast (λ x. A x × B x) (least_of r s)
least_both A B None None h k = λ x. (h x, k x)
least_both A B None (Some y) h k = (λ p. k.0 p.1, λ z less. (h z, k.1 z less))
least_both A B (Some x) None h k = (λ p. h.0 p.0, λ z less. (h.1 z less, k z))
least_both A B (Some x) (Some y) h k = by (nat_le x y) refl
  where
    below : nat_le x y ≡ true → x ≤ y
    below e = leb-true x y e

    above : nat_le x y ≡ false → y < x
    above e = leb-false x y e

    by : (t : Bool) → nat_le x y ≡ t → FailsLeast (λ z. A z × B z) (if t then Some x else Some y)
    by true e = let le = below e in (λ p. h.0 p.0, λ z less. (h.1 z less, k.1 z (omega (arith, less, le))))
    by false e = let gt = above e in (λ p. k.0 p.1, λ z less. (h.1 z (omega (arith, less, gt)), k.1 z less))
