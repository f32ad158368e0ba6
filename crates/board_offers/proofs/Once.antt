-- Ids of which none stands twice.
use Rattle.std.proofs.Common.{◌≡◌, ◌≢◌, ℕ, ◌+◌, ◌<◌, ◌==◌, Bool, true, false, true≢false, refl, sym, ◌∙◌, ap, subst}
use Rattle.std.proofs.Common.{List, [], ◌∷◌, length, map, get_or, take}
use Rattle.std.specs.Prelude.{◌||◌}
use Rattle.std.specs.List.{AllPairs, Contains, list_any}
use Rattle.std.proofs.lemmas.List.Elements.{All-contains, Contains-get_or}
use Rattle.board_offers.specs.declared.offer.Shoved.{Shoved}
use Rattle.board_offers.specs.Items.{names}
use Rattle.board_offers.proofs.Lists.{pairs_more, pairs_before, named_in, in_named}

abbrev pub AreDistinct : List ℕ → Type 0
AreDistinct ids = AllPairs (λ (x y : ℕ). x ≢ y) ids

-- one more id that isn't among those before it
pub distinct_more : (ids : List ℕ) (i x : ℕ) → i < length ids → x ≡ get_or ids i x → names (take i ids) x ≡ false
    → AreDistinct (take i ids) → AreDistinct (take (i + 1) ids)
distinct_more ids i x within is free apart =
    pairs_more (λ (a b : ℕ). a ≢ b) ids i x within is apart (λ k d less same.
    let there : Contains (take i ids) x = subst (Contains (take i ids)) same (Contains-get_or (take i ids) k d less) in
    true≢false (sym (in_named (take i ids) x there) ∙ free))

-- an id that is among those before it
pub not_distinct : (ids : List ℕ) (i x : ℕ) → i < length ids → x ≡ get_or ids i x → names (take i ids) x ≡ true
    → AreDistinct ids → ⊥
not_distinct ids i x within is found apart =
    All-contains (λ (y : ℕ). y ≢ x) (take i ids) x (pairs_before (λ (a b : ℕ). a ≢ b) ids i x within is apart)
    (named_in (take i ids) x found) refl

-- the ids of shoves
abbrev pub id_of : Shoved → ℕ
id_of s = s.id

pub shoved_named : (ss : List Shoved) (x : ℕ) → list_any (λ (s : Shoved). s.id == x) ss ≡ names (map id_of ss) x
shoved_named [] x = refl
shoved_named (s ∷ ss) x = ap (λ (b : Bool). (s.id == x) || b) (shoved_named ss x)
