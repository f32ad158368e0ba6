-- Two texts that are the same are cut at the same place.
use Rattle.std.proofs.Common.{◌≡◌, ℕ, Bool, true, List, [], ◌∷◌, ◌++◌, ap, sym, ◌∙◌, refl, drop, get_or}
use Rattle.std.specs.List.{list_all}
use Rattle.std.proofs.lemmas.Bool.{and_parts, both_ways}
use Rattle.told_words.specs.Stops.{Stops}

-- equal texts begin alike
head_is : (x y : ℕ) (xs ys : List ℕ) → x ∷ xs ≡ y ∷ ys → x ≡ y
head_is x y xs ys e = ap (λ (bs : List ℕ). get_or bs 0 0) e

-- and go on alike
tail_is : (x y : ℕ) (xs ys : List ℕ) → x ∷ xs ≡ y ∷ ys → xs ≡ ys
tail_is x y xs ys e = ap (λ (bs : List ℕ). drop 1 bs) e

-- pieces of bytes that pass the test, each before a stop
pub cut : (test : ℕ → Bool) (xs ys r t : List ℕ) → list_all test xs ≡ true → list_all test ys ≡ true → Stops test r
    → Stops test t → xs ++ r ≡ ys ++ t → (xs ≡ ys) × (r ≡ t)
cut test [] [] r t p q s u e = (refl, e)
cut test [] (y ∷ ys) [] t p q s u e = absurd (cc)
cut test [] (y ∷ ys) (c ∷ cs) t p q s u e = absurd (both_ways (test y)
    (ap test (sym (head_is c y cs (ys ++ t) e)) ∙ s) (and_parts (test y) (list_all test ys) q).0)
cut test (x ∷ xs) [] r [] p q s u e = absurd (cc)
cut test (x ∷ xs) [] r (c ∷ cs) p q s u e = absurd (both_ways (test x)
    (ap test (head_is x c (xs ++ r) cs e) ∙ u) (and_parts (test x) (list_all test xs) p).0)
cut test (x ∷ xs) (y ∷ ys) r t p q s u e =
    let rest = cut test xs ys r t (and_parts (test x) (list_all test xs) p).1
    (and_parts (test y) (list_all test ys) q).1 s u
    (tail_is x y (xs ++ r) (ys ++ t) e) in
    let head = head_is x y (xs ++ r) (ys ++ t) e in
    ((λ i. head i ∷ rest.0 i), rest.1)
