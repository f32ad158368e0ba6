-- What a loop has made and what is left of it.
use Rattle.std.proofs.Common.{◌≡◌, ◌∙◌, ap, sym, ℕ, ◌+◌, ◌<◌, ◌≤◌, List, [], ◌∷◌, ◌++◌, Option, Some, None, length}
use Rattle.std.proofs.Common.{drop, get_or, refl, arith}
use Prim.Native.Nat.{suc}
use Rattle.std.proofs.Math.Seq.{drop-cons}
use Rattle.std.proofs.lemmas.List.{append-nil, append_assoc, drop_all}
use Rattle.dsn_placement.specs.Copper.{all_or_none, with_first}

-- what is made, before what is left
abbrev pub behind : {Y : Type 0} → List Y → Option (List Y) → Option (List Y)
behind made None = None
behind made (Some rest) = Some (made ++ rest)

-- one more behind what is made is one more before what is left
one_behind : {Y : Type 0} (made : List Y) (y : Y) (o : Option (List Y))
    → behind (made ++ (y ∷ [])) o ≡ behind made (with_first (Some y) o)
one_behind made y None = refl
one_behind made y (Some rest) = ap Some (append_assoc made (y ∷ []) rest)

-- the first of what is left, before the others
first_left : {X Y : Type 0} (f : X → Option Y) (xs : List X) (i : ℕ) (x : X) → i < length xs → x ≡ get_or xs i x
    → all_or_none f (drop i xs) ≡ with_first (f x) (all_or_none f (drop (i + 1) xs))
first_left f xs i x h e =
    let next_is : suc i ≡ i + 1 = omega arith in
    ap (all_or_none f) (drop-cons xs i x h)
    ∙ ap (λ j. with_first (f (get_or xs i x)) (all_or_none f (drop j xs))) next_is
    ∙ ap (λ z. with_first (f z) (all_or_none f (drop (i + 1) xs))) (sym e)

-- nothing is made yet
pub none_made : {Y : Type 0} (made : List Y) (o : Option (List Y)) → made ≡ [] → behind made o ≡ o
none_made made None e = refl
none_made made (Some rest) e = ap (λ l. Some (l ++ rest)) e

-- one more is made
pub one_made : {X Y : Type 0} (f : X → Option Y) (xs : List X) (i : ℕ) (x : X) (y : Y) (old new : List Y)
    → i < length xs → x ≡ get_or xs i x → f x ≡ Some y → new ≡ old ++ (y ∷ [])
    → behind old (all_or_none f (drop i xs)) ≡ all_or_none f xs
    → behind new (all_or_none f (drop (i + 1) xs)) ≡ all_or_none f xs
one_made f xs i x y old new h e s n p =
    let rest = all_or_none f (drop (i + 1) xs) in
    ap (λ l. behind l rest) n ∙ one_behind old y rest ∙ ap (λ o. behind old (with_first o rest)) (sym s)
    ∙ ap (behind old) (sym (first_left f xs i x h e)) ∙ p

-- one of them is left out, so there is nothing
pub not_made : {X Y : Type 0} (f : X → Option Y) (xs : List X) (i : ℕ) (x : X) (old : List Y) → i < length xs
    → x ≡ get_or xs i x → f x ≡ None → behind old (all_or_none f (drop i xs)) ≡ all_or_none f xs
    → None ≡ all_or_none f xs
not_made f xs i x old h e s p =
    let rest = all_or_none f (drop (i + 1) xs) in
    ap (λ o. behind old (with_first o rest)) (sym s) ∙ ap (behind old) (sym (first_left f xs i x h e)) ∙ p

-- all are made
pub all_made : {X Y : Type 0} (f : X → Option Y) (xs : List X) (i : ℕ) (old : List Y) → length xs ≤ i
    → behind old (all_or_none f (drop i xs)) ≡ all_or_none f xs → Some old ≡ all_or_none f xs
all_made f xs i old h p =
    ap Some (sym (append-nil old)) ∙ ap (λ l. behind old (all_or_none f l)) (sym (drop_all i xs h)) ∙ p
