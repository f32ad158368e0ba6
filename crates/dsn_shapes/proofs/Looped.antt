-- What a loop over lists has noted and made of those that it has seen, with one more.
use Rattle.std.proofs.Common.{◌≡◌, ◌∙◌, ap, sym, ℕ, ◌+◌, ◌<◌, List, [], ◌∷◌, ◌++◌, Option, length, take, get_or}
use Rattle.std.proofs.Common.{map, refl}
use Rattle.std.specs.Borrow.{Bor}
use Rattle.std.specs.List.{flat_map}
use Rattle.std.proofs.lemmas.List.{flat_map_more, map_more, map_push}
use Rattle.std.proofs.lemmas.List.Sums.{fold-append}
use Rattle.dsn_tree.specs.declared.tree.Tree.{Tree}
use Rattle.dsn_shapes.specs.declared.refusal.Refusal.{Refusal}
use Rattle.dsn_shapes.specs.Lists.{lists, trees_of}
use Rattle.dsn_shapes.specs.Refusals.{kept, noted}

-- what is noted after something else is noted with it
pub then_noted : (first now new : Option Refusal) (rs ss : List Refusal) → now ≡ noted first rs → new ≡ noted now ss
    → new ≡ noted first (rs ++ ss)
then_noted first now new rs ss p q = q ∙ ap (λ x. noted x ss) p ∙ sym (fold-append kept first rs ss)

-- a value for each element that is seen, with one more
pub mapped_more : {X Y : Type 0} (f : X → Y) (xs : List X) (i : ℕ) (x : X) (ys : List Y) (y : Y) → i < length xs
    → x ≡ get_or xs i x → ys ≡ map f (take i xs) → y ≡ f x → ys ++ (y ∷ []) ≡ map f (take (i + 1) xs)
mapped_more f xs i x ys y h e p q =
    ap (λ l. l ++ (y ∷ [])) p ∙ ap (λ z. map f (take i xs) ++ (z ∷ [])) (q ∙ ap f e) ∙ sym (map_more f xs i x h)

-- the lists that are seen, with one more
seen_more : (ts : List (Bor Tree)) (i : ℕ) (t : Bor Tree) → i < length ts → t ≡ get_or ts i t
    → trees_of (take i ts) ++ (t.now ∷ []) ≡ trees_of (take (i + 1) ts)
seen_more ts i t h e =
    ap (λ (b : Bor Tree). trees_of (take i ts) ++ (b.now ∷ [])) e ∙ sym (map_more (λ (b : Bor Tree). b.now) ts i t h)

-- a value for each of them
pub made_more : {Y : Type 0} (f : Tree → Y) (ts : List (Bor Tree)) (i : ℕ) (t : Bor Tree) (ys : List Y) (y : Y)
    → i < length ts → t ≡ get_or ts i t → ys ≡ map f (trees_of (take i ts)) → y ≡ f t.now
    → ys ++ (y ∷ []) ≡ map f (trees_of (take (i + 1) ts))
made_more f ts i t ys y h e p q =
    ap (λ l. l ++ (y ∷ [])) p ∙ ap (λ z. map f (trees_of (take i ts)) ++ (z ∷ [])) q
    ∙ sym (map_push f (trees_of (take i ts)) t.now) ∙ ap (map f) (seen_more ts i t h e)

-- and of several values for each
pub all_more : {Y : Type 0} (f : Tree → List Y) (ts : List (Bor Tree)) (i : ℕ) (t : Bor Tree) (ys : List Y)
    → i < length ts → t ≡ get_or ts i t → ys ≡ flat_map f (trees_of (take i ts))
    → ys ++ f t.now ≡ flat_map f (trees_of (take (i + 1) ts))
all_more f ts i t ys h e p =
    ap (λ l. l ++ f t.now) p ∙ flat_map_more f [] (trees_of (take i ts)) t.now ∙ ap (flat_map f) (seen_more ts i t h e)

-- and of the refusals of each
pub noted_more : (f : Tree → List Refusal) (ts : List (Bor Tree)) (i : ℕ) (t : Bor Tree)
    (first now new : Option Refusal) → i < length ts → t ≡ get_or ts i t
    → now ≡ noted first (flat_map f (trees_of (take i ts))) → new ≡ noted now (f t.now)
    → new ≡ noted first (flat_map f (trees_of (take (i + 1) ts)))
noted_more f ts i t first now new h e p q =
    then_noted first now new (flat_map f (trees_of (take i ts))) (f t.now) p q
    ∙ ap (noted first) (all_more f ts i t (flat_map f (trees_of (take i ts))) h e refl)

-- the lists of one head, which is given as another
pub headed_by : (head given : List ℕ) (rules ts : List Tree) → ts ≡ lists (given ∷ []) rules → given ≡ head
    → ts ≡ lists (head ∷ []) rules
headed_by head given rules ts p e = p ∙ ap (λ h. lists (h ∷ []) rules) e
