-- The element at a place, as an option.
use Rattle.std.proofs.Common.{◌≡◌, ℕ, ◌<◌, List, [], ◌∷◌, length, get_or, Option, Some, None, sym, ap, ◌∙◌, arith}
use Prim.Native.Nat.{zero, suc}
use Rattle.std.specs.Prelude.{slice_get}
use Rattle.std.specs.Option.{IsSomeAnd}

pub at_get : {X : Type 0} (xs : List X) (i : ℕ) (x : X) → i < length xs → x ≡ get_or xs i x → slice_get xs i ≡ Some x
at_get [] i x h e = absurd (omega arith)
at_get (y ∷ ys) zero x h e = ap Some (sym e)
at_get (y ∷ ys) (suc i) x h e = at_get ys i x (omega arith) e

-- what f gives of the value is one
pub one_value : {X Y : Type 0} (f : X → Y) (o : Option X) (a b : Y) → IsSomeAnd o (λ x. f x ≡ a)
    → IsSomeAnd o (λ x. f x ≡ b) → a ≡ b
one_value f None a b p q = absurd p
one_value f (Some x) a b p q = sym p ∙ q
