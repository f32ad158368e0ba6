-- A loop that stops at the first element that answers a question about all.
use Rattle.std.proofs.Common.{◌≡◌, ◌∙◌, ◌<◌, ◌≤◌, ◌+◌, ◌++◌, ◌∷◌, [], ℕ, List, length, map, take, get_or, All, Any}
use Rattle.std.proofs.Common.{ap, append_assoc, drop, drop-cons, refl, suc, sym, subst, arith}
use Rattle.std.proofs.lemmas.List.{map_more, take_all}
use Rattle.std.proofs.lemmas.List.Elements.{All-more}
use Rattle.dsn_shapes.proofs.Looped.{mapped_more}

-- the element that the loop is at
pub at_place : {X : Type 0} (P : X → Type 0) (xs : List X) → All P xs → (i : ℕ) (x : X) → i < length xs
    → x ≡ get_or xs i x → P x
at_place P xs all i x within is = subst P (sym is) (all i x within)

-- what holds before it, and of it
pub front_more : {X : Type 0} (P : X → Type 0) (xs : List X) (i : ℕ) (x : X) → i < length xs → x ≡ get_or xs i x
    → All P (take i xs) → P x → All P (take (i + 1) xs)
front_more P xs i x within is all here = All-more P xs i x within all (subst P is here)

pub front_all : {X : Type 0} (P : X → Type 0) (xs : List X) (i : ℕ) → length xs ≤ i → All P (take i xs) → All P xs
front_all P xs i past all = subst (All P) (take_all i xs past) all

-- some element, where it is one
pub any_at : {X : Type 0} (P : X → Type 0) (xs : List X) (i : ℕ) (x : X) → i < length xs → x ≡ get_or xs i x → P x
    → Any P xs
any_at P xs i x within is here = (i, x, within, sym is, here)

-- none, where the loop came to its end
pub none_left : {X : Type 0} (P : X → Type 0) (xs : List X) (i : ℕ) → length xs ≤ i → All (λ x. ¬ (P x)) (take i xs)
    → Any P xs → ⊥
none_left P xs i past none (k, x, within, is, here) =
    front_all (λ y. ¬ (P y)) xs i past none k x within (subst P (sym is) here)

-- a value for each element that is seen, behind others, with one more
pub pushed_more : {X Y : Type 0} (f : X → Y) (xs : List X) (i : ℕ) (x : X) (old ys : List Y) (y : Y) → i < length xs
    → x ≡ get_or xs i x → ys ≡ old ++ map f (take i xs) → y ≡ f x → ys ++ (y ∷ []) ≡ old ++ map f (take (i + 1) xs)
pushed_more f xs i x old ys y h e p q =
    ap (λ l. l ++ (y ∷ [])) p
    ∙ rw append_assoc (ap (λ l. old ++ l) (mapped_more f xs i x (map f (take i xs)) y h e refl q))

-- the same of numbers, which a loop has by their place
pub pushed_at : {X Y : Type 0} (f : X → Y) (xs : List X) (i : ℕ) (d : X) (old ys : List Y) (y : Y) → i < length xs
    → ys ≡ old ++ map f (take i xs) → y ≡ f (get_or xs i d) → ys ++ (y ∷ []) ≡ old ++ map f (take (i + 1) xs)
pushed_at f xs i d old ys y h p q =
    ap (λ l. l ++ (y ∷ [])) p
    ∙ rw append_assoc (ap (λ l. old ++ l)
    (ap (λ z. map f (take i xs) ++ (z ∷ [])) q ∙ sym (map_more f xs i d h)))

-- several values for the element that is seen, which come first of those that are left
pub some_left : {X Y : Type 0} (F : List X → List Y) (xs : List X) (i : ℕ) (x : X) (ys zs tail whole : List Y)
    → i < length xs → x ≡ get_or xs i x → F (x ∷ drop (i + 1) xs) ≡ zs ++ tail → ys ++ F (drop i xs) ≡ whole
    → (ys ++ zs) ++ tail ≡ whole
some_left F xs i x ys zs tail whole h e f w =
    let n : i + 1 ≡ suc i = omega arith in
    let split : drop i xs ≡ x ∷ drop (i + 1) xs =
    drop-cons xs i x h ∙ ap (λ y. y ∷ drop (suc i) xs) (sym e) ∙ ap (λ k. x ∷ drop k xs) (sym n) in
    append_assoc ys zs tail ∙ ap (λ l. ys ++ l) (sym (ap F split ∙ f)) ∙ w

-- and one
pub one_left : {X Y : Type 0} (F : List X → List Y) (xs : List X) (i : ℕ) (x : X) (ys : List Y) (y : Y)
    (tail whole : List Y) → i < length xs → x ≡ get_or xs i x → F (x ∷ drop (i + 1) xs) ≡ y ∷ tail
    → ys ++ F (drop i xs) ≡ whole → (ys ++ (y ∷ [])) ++ tail ≡ whole
one_left F xs i x ys y tail whole h e f w = some_left F xs i x ys (y ∷ []) tail whole h e f w
