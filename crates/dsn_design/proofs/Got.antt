-- What holds of each element of a list holds of the one at a place.
use Rattle.std.proofs.Common.{zero, suc, ◌≡◌, subst, ℕ, List, [], ◌∷◌, Some}
use Rattle.std.specs.Prelude.{All, slice_get}
use Rattle.std.proofs.lemmas.List.Elements.{All-head, All-tail}

pub got : {X : Type 0} (P : X → Type 0) (xs : List X) (i : ℕ) (x : X) → All P xs → Some x ≡ slice_get xs i → P x
got P [] i x h e = cc
got P (y ∷ xs) zero x h e = let s : y ≡ x = cc in subst P s (All-head P y xs h)
got P (y ∷ xs) (suc i) x h e = got P xs i x (All-tail P y xs h) e
