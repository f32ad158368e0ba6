-- The first and the last node of a walk, by their places.
use Rattle.std.proofs.Common.{◌≡◌, ℕ, ◌-◌, ◌<◌, List, [], ◌∷◌, length, get_or, refl, ap, ◌∙◌, arith}
use Rattle.path_wire.specs.Joins.{last_node}

last_at : (v : ℕ) (vs : List ℕ) (x : ℕ) → get_or (v ∷ vs) (length vs) x ≡ last_node v vs
last_at v [] x = refl
last_at v (w ∷ vs) x = last_at w vs x

pub last_place : (ns : List ℕ) (v : ℕ) (vs : List ℕ) (x : ℕ) → ns ≡ v ∷ vs → get_or ns (length ns - 1) x
    ≡ last_node v vs
last_place ns v vs x e =
    let n : length (v ∷ vs) - 1 ≡ length vs = omega arith in
    ap (λ (xs : List ℕ). get_or xs (length xs - 1) x) e ∙ ap (λ (k : ℕ). get_or (v ∷ vs) k x) n ∙ last_at v vs x

pub first_place : (ns : List ℕ) (v : ℕ) (vs : List ℕ) (x : ℕ) → ns ≡ v ∷ vs → get_or ns 0 x ≡ v
first_place ns v vs x e = ap (λ (xs : List ℕ). get_or xs 0 x) e

pub some_node : (ns : List ℕ) (v : ℕ) (vs : List ℕ) → ns ≡ v ∷ vs → 0 < length ns
some_node ns v vs e = let l : length ns ≡ length (v ∷ vs) = ap (λ (xs : List ℕ). length xs) e in omega (arith, l)
