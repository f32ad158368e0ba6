-- Lists that grow or shrink at their end, place by place.
use Rattle.std.proofs.Common.{◌≡◌, ◌<◌, ℕ, zero, suc, refl, ap, arith, List, [], ◌∷◌, ◌++◌, length}
use Rattle.std.proofs.Common.{get_or}
use Rattle.std.specs.List.{AllZip}
use Rattle.std.proofs.lemmas.List.{length-append}

-- what holds at each place and of one element more
pub at_push : {X : Type 0} (P : ℕ → X → Type 0) (xs : List X) (x : X)
    → ((k : ℕ) (d : X) → k < length xs → P k (get_or xs k d)) → P (length xs) x
    → (k : ℕ) (d : X) → k < length (xs ++ x ∷ []) → P k (get_or (xs ++ x ∷ []) k d)
at_push P [] x each last zero d lt = last
at_push P [] x each last (suc k) d lt = absurd (omega (arith, lt))
at_push P (y ∷ xs) x each last zero d lt = each zero d (omega arith)
at_push P (y ∷ xs) x each last (suc k) d lt =
    at_push (λ j. P (suc j)) xs x (λ j e within. each (suc j) e (omega (arith, within))) last k d (omega (arith, lt))

-- what holds at each place holds at those of the front
pub at_front : {X : Type 0} (P : ℕ → X → Type 0) (xs : List X) (x : X)
    → ((k : ℕ) (d : X) → k < length (xs ++ x ∷ []) → P k (get_or (xs ++ x ∷ []) k d))
    → (k : ℕ) (d : X) → k < length xs → P k (get_or xs k d)
at_front P [] x each k d lt = absurd (omega (arith, lt))
at_front P (y ∷ xs) x each zero d lt = each zero d (omega arith)
at_front P (y ∷ xs) x each (suc k) d lt =
    at_front (λ j. P (suc j)) xs x (λ j e within. each (suc j) e (omega (arith, within))) k d (omega (arith, lt))

-- and at the last
pub at_last : {X : Type 0} (P : ℕ → X → Type 0) (xs : List X) (x : X)
    → ((k : ℕ) (d : X) → k < length (xs ++ x ∷ []) → P k (get_or (xs ++ x ∷ []) k d)) → P (length xs) x
at_last P [] x each = each zero x (omega arith)
at_last P (y ∷ xs) x each = at_last (λ j. P (suc j)) xs x (λ j e within. each (suc j) e (omega (arith, within)))

-- equal lists with an element at their end are equal before it, and there
pub ends_same : {X : Type 0} (xs ys : List X) (x y : X) → xs ++ x ∷ [] ≡ ys ++ y ∷ [] → (xs ≡ ys) × (x ≡ y)
ends_same [] [] x y e = (refl, cc)
ends_same [] (b ∷ ys) x y e = let n = ap length e in let m = length-append ys (y ∷ []) in absurd (omega (arith, n, m))
ends_same (a ∷ xs) [] x y e = let n = ap length e in let m = length-append xs (x ∷ []) in absurd (omega (arith, n, m))
ends_same (a ∷ xs) (b ∷ ys) x y e =
    let head : a ≡ b = cc in
    let tail : xs ++ x ∷ [] ≡ ys ++ y ∷ [] = cc in
    let rest = ends_same xs ys x y tail in
    ((λ i. head i ∷ rest.0 i), rest.1)

-- one pair more, side by side
pub zip_push : {X Y : Type 0} (R : X → Y → Type 0) (xs : List X) (ys : List Y) (x : X) (y : Y) → AllZip R xs ys → R x y
    → AllZip R (xs ++ x ∷ []) (ys ++ y ∷ [])
zip_push R [] [] x y zip last = (last, tt)
zip_push R [] (b ∷ ys) x y zip last = absurd zip
zip_push R (a ∷ xs) [] x y zip last = absurd zip
zip_push R (a ∷ xs) (b ∷ ys) x y zip last = (zip.0, zip_push R xs ys x y zip.1 last)
