-- The layers of a set, with one more layer.
use Rattle.std.proofs.Common.{zero, suc, ◌≡◌, ◌++◌, ◌+◌, ◌∙◌, ap, sym, ℕ, List, [], ◌∷◌, cond, true, false, arith}
use Rattle.std.specs.Prelude.{filter}
use Rattle.std.specs.List.{range_with_len}
use Rattle.std.proofs.lemmas.List.{append-nil}
use Rattle.std.proofs.lemmas.List.Elements.{filter-append}
use Rattle.dsn_wiring.specs.Layers.{has_layer, layers_below}

pub range_push : (a n : ℕ) → range_with_len a (suc n) ≡ range_with_len a n ++ (a + n) ∷ []
range_push a zero = let e : a ≡ a + 0 = omega arith in ap (λ k. k ∷ []) e
range_push a (suc n) = let e : a + 1 + n ≡ a + suc n = omega arith in
    ap (λ xs. a ∷ xs) (range_push (a + 1) n ∙ ap (λ m. range_with_len (a + 1) n ++ m ∷ []) e)

pub next_layer : (layers i : ℕ) → layers_below (i + 1) layers ≡ layers_below i layers
    ++ cond (has_layer layers i) (i ∷ []) []
unfolding layers_below
next_layer layers i =
    let e : i + 1 ≡ suc i = omega arith in
    let z : 0 + i ≡ i = omega arith in
    ap (λ n. filter (has_layer layers) (range_with_len 0 n)) e
    ∙ ap (filter (has_layer layers)) (range_push 0 i)
    ∙ filter-append (has_layer layers) (range_with_len 0 i) ((0 + i) ∷ [])
    ∙ ap (λ n. filter (has_layer layers) (range_with_len 0 i) ++ cond (has_layer layers n) (n ∷ []) []) z

-- a layer of the set is kept, and another is left
pub kept : (found more : List ℕ) (layers i : ℕ) → found ≡ layers_below i layers → has_layer layers i ≡ true
    → more ≡ found ++ i ∷ [] → more ≡ layers_below (i + 1) layers
kept found more layers i f h e =
    e ∙ ap (λ xs. xs ++ i ∷ []) f ∙ sym (next_layer layers i ∙ ap (λ b. layers_below i layers ++ cond b (i ∷ []) []) h)

pub left : (found more : List ℕ) (layers i : ℕ) → found ≡ layers_below i layers → has_layer layers i ≡ false
    → more ≡ found → more ≡ layers_below (i + 1) layers
left found more layers i f h e =
    e ∙ f ∙ sym (append-nil (layers_below i layers))
    ∙ sym (next_layer layers i ∙ ap (λ b. layers_below i layers ++ cond b (i ∷ []) []) h)
