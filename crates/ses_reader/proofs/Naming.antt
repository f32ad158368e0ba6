-- Names of values that are pushed one by one, as references to them.
use Rattle.std.proofs.Common.{◌≡◌, ◌+◌, ◌<◌, ◌≤◌, ◌∙◌, ap, ap₂, sym, ℕ, List, [], ◌∷◌, ◌++◌, length, take, get_or, Bor}
use Rattle.std.specs.Prelude.{map, IfOk, Result}
use Rattle.std.proofs.lemmas.List.{take_all, take_more, map-append}
use Rattle.std.proofs.lemmas.Result.{IfOk-weaker}
use Rattle.dsn_shapes.specs.Lists.{heads_of}

-- with the name of one more value
pub named_more : {X : Type 0} (name : X → List ℕ) (xs : List X) (i : ℕ) (x : X) (names more : List (Bor (List ℕ)))
    (b : Bor (List ℕ)) → i < length xs → x ≡ get_or xs i x → heads_of names ≡ map name (take i xs)
    → b.now ≡ name x → more ≡ names ++ b ∷ [] → heads_of more ≡ map name (take (i + 1) xs)
named_more name xs i x names more b h is so_far e pushed =
    ap heads_of pushed ∙ map-append (λ (r : Bor (List ℕ)). r.now) names (b ∷ [])
    ∙ ap₂ (λ ns n. ns ++ n ∷ []) so_far e ∙ sym (map-append name (take i xs) (x ∷ []))
    ∙ ap (λ y. map name (take i xs ++ y ∷ [])) is ∙ sym (ap (map name) (take_more xs i x h))

-- an index of the names of all values
pub named_all : {X E : Type 0} (name : X → List ℕ) (xs : List X) (i : ℕ) (names : List (Bor (List ℕ)))
    (r : Result (List (List ℕ)) E) → length xs ≤ i → heads_of names ≡ map name (take i xs)
    → IfOk r (λ x. x ≡ heads_of names) → IfOk r (λ x. x ≡ map name xs)
named_all name xs i names r past so_far h = IfOk-weaker r (λ x. x ≡ heads_of names) (λ x. x ≡ map name xs)
    (λ x e. e ∙ so_far ∙ ap (map name) (take_all i xs past)) h
