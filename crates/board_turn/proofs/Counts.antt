-- How often a name stands among passes.
use Rattle.std.proofs.Common.{◌≡◌, ℕ, zero, suc, ◌+◌, ◌<◌, ◌≤◌, Bool, true, false, eqb, List, [], ◌∷◌, ◌++◌, set}
use Rattle.std.proofs.Common.{refl, sym, ap, ⊎_elim, arith, eq-eqb}
use Rattle.std.proofs.lemmas.Bool.{lt-ltb, le-ltb, cases_lt}
use mathlib.Core.Option.{some, some-ne-none}
use lib.ListN.{get_elem?}
use Rattle.board_turn.specs.declared.lock.PassView.{PassView}
use Rattle.board_turn.specs.Claims.{one_if, once_below}
use Rattle.board_turn.specs.inner.Lock.{named}

-- what is set stands there
pub set_at : {A : Type 0} (l : List A) (i : ℕ) (a b : A) → get_elem? l i ≡ some a → get_elem? (set l i b) i ≡ some b
set_at [] i a b e = absurd (some-ne-none a (sym e))
set_at (x ∷ xs) zero a b e = refl
set_at (x ∷ xs) (suc i) a b e = set_at xs i a b e

-- a number is equal to itself
pub one_if_same : (n : ℕ) → one_if (eqb n n) ≡ 1
one_if_same n = ap one_if (eq-eqb n n refl)

-- a test counts once at most
pub one_if_most : (b : Bool) → one_if b ≤ 1
one_if_most true = omega arith
one_if_most false = omega arith

-- x is below n where it counts as such
pub is_below : (x n : ℕ) → 1 ≤ once_below x n → x < n
is_below x n h = ⊎_elim (λ (l : x < n). l) (λ (l : n ≤ x). let a = ap one_if (le-ltb x n l) in
    absurd (omega arith)) (cases_lt x n)

-- a number below n counts once
pub below_is : (x n : ℕ) → x < n → once_below x n ≡ 1
below_is x n l = ap one_if (lt-ltb x n l)

-- names of two lists are counted together
pub named-append : (n : ℕ) (ps qs : List PassView) → named n (ps ++ qs) ≡ named n ps + named n qs
named-append n [] qs = omega arith
named-append n (p ∷ ps) qs = omega (arith, named-append n ps qs)
