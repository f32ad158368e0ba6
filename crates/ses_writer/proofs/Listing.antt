-- Items of copper taken one after another, in order of id.
use Rattle.std.proofs.Common.{◌≡◌, inl, inr, ℕ, ◌+◌, ◌<◌, ◌≤◌, zero, suc, refl, sym, ◌∙◌, ap, subst, List, [], ◌∷◌}
use Rattle.std.proofs.Common.{◌++◌, arith}
use Rattle.std.specs.Prelude.{All, Contains}
use Rattle.std.proofs.lemmas.List.{append-nil, append_assoc}
use Rattle.std.proofs.lemmas.List.Elements.{All-nil, All-cons, All-append, All-weaker, All-contains}
use Rattle.std.proofs.lemmas.List.Elements.{Contains-append_right, Contains-append_cases}
use Rattle.pcb_model.specs.declared.item.Item.{Item}
use Rattle.pcb_model.specs.Copper.{Ascends, IsFirstFrom}
use Rattle.board_offers.proofs.Lists.{in_here, all_front, pairs_rest, all_from}

-- these are the items below an id, in order, and the rest are from there on
pub record AreBelow (items : List Item) (from : ℕ) (done : List Item) : Type 0 where
  pub rest : List Item
  pub all_is : items ≡ done ++ rest
  pub below : All (λ (b : Item). b.id < from) done
  pub behind : All (λ (b : Item). from ≤ b.id) rest

pub none_below : (items : List Item) → AreBelow items 0 []
none_below items = record {
  rest = items;
  all_is = refl;
  below = All-nil (λ (b : Item). b.id < 0);
  behind = λ k d within. omega arith;
}

abbrev Before : Item → Item → Type 0
Before a b = a.id < b.id

-- what is behind others ascends too
ascends_rest : (done rest : List Item) → Ascends (done ++ rest) → Ascends rest
ascends_rest [] rest up = up
ascends_rest (a ∷ done) rest up = ascends_rest done rest (pairs_rest Before a (done ++ rest) up)

record BeginsWith (rest : List Item) (a : Item) : Type 0 where
  later : List Item
  is : rest ≡ a ∷ later

-- the first item from an id on begins the rest
begins_with : (rest : List Item) (from : ℕ) (a : Item) → Ascends rest → All (λ (b : Item). from ≤ b.id) rest
    → Contains rest a → ((b : Item) → Contains rest b → b.id < a.id → b.id < from) → BeginsWith rest a
begins_with [] from a up behind (k, within, is) before = absurd (omega (arith, within))
begins_with (b ∷ rest) from a up behind (zero, within, is) before =
    record { later = rest; is = ap (λ (x : Item). x ∷ rest) is }
begins_with (b ∷ rest) from a up behind (suc k, within, is) before =
    let less : b.id < a.id =
    All-contains (λ (x : Item). b.id < x.id) rest a (all_front Before b rest up) (k, omega (arith, within), is) in
    let low : b.id < from = before b (in_here b rest) less in
    let high : from ≤ b.id = behind 0 b (omega arith) in
    absurd (omega (arith, low, high))

-- with the first item from the id on they are those below the next id
module _ (items done : List Item) (from : ℕ) (a : Item) (up : Ascends items) (are : AreBelow items from done)
    (first : IsFirstFrom from items a) where
  not_done : Contains done a → ⊥
  not_done there =
      let low : a.id < from = All-contains (λ (b : Item). b.id < from) done a are.below there in
      let high : from ≤ a.id = first.from_on in
      omega (arith, low, high)

  to_come : Contains are.rest a
  to_come =
      let there : Contains (done ++ are.rest) a = subst (λ (xs : List Item). Contains xs a) are.all_is first.there in
      elim (Contains-append_cases done are.rest a there) [
        | inl before ↦ absurd (not_done before)
        | inr behind ↦ behind
      ]

  rest_up : Ascends are.rest
  rest_up = ascends_rest done are.rest (subst Ascends are.all_is up)

  next : BeginsWith are.rest a
  next = begins_with are.rest from a rest_up are.behind to_come
      (λ b there less. first.before b
      (subst (λ (xs : List Item). Contains xs b) (sym are.all_is) (Contains-append_right done are.rest b there)) less)

  pub one_below : AreBelow items (a.id + 1) (done ++ a ∷ [])
  one_below = record {
    rest = next.later;
    all_is = are.all_is ∙ (ap (λ (xs : List Item). done ++ xs) next.is ∙ sym (append_assoc done (a ∷ []) next.later));
    below = All-append (λ (b : Item). b.id < a.id + 1) done (a ∷ [])
        (All-weaker (λ (b : Item). b.id < from) (λ (b : Item). b.id < a.id + 1)
        (λ b low. let high : from ≤ a.id = first.from_on in omega (arith, low, high)) done are.below)
        (All-cons (λ (b : Item). b.id < a.id + 1) a [] (omega arith) (All-nil (λ (b : Item). b.id < a.id + 1)));
    behind = All-weaker (λ (b : Item). a.id < b.id) (λ (b : Item). a.id + 1 ≤ b.id) (λ b less. omega (arith, less))
        next.later (all_front Before a next.later (subst Ascends next.is rest_up));
  }

none_left : (rest : List Item) (from : ℕ) → All (λ (b : Item). from ≤ b.id) rest → All (λ (b : Item). b.id < from) rest
    → rest ≡ []
none_left [] from behind below = refl
none_left (b ∷ rest) from behind below =
    let high : from ≤ b.id = behind 0 b (omega arith) in
    let low : b.id < from = below 0 b (omega arith) in
    absurd (omega (arith, low, high))

-- where all items are below the id, they are all
pub all_below : (items done : List Item) (from : ℕ) → AreBelow items from done
    → All (λ (b : Item). b.id < from) items → done ≡ items
all_below items done from are low =
    let rest_low : All (λ (b : Item). b.id < from) are.rest = all_from (λ (b : Item). b.id < from) are.rest
    (λ b there. All-contains (λ (x : Item). x.id < from) items b low
    (subst (λ (xs : List Item). Contains xs b) (sym are.all_is) (Contains-append_right done are.rest b there))) in
    sym (are.all_is
    ∙ (ap (λ (xs : List Item). done ++ xs) (none_left are.rest from are.behind rest_low) ∙ append-nil done))

-- so it is where no id can be above the last one
pub all_by : (items done : List Item) (from n : ℕ) → AreBelow items from done → n ≤ from
    → All (λ (b : Item). b.id < n) items → done ≡ items
all_by items done from n are high low =
    all_below items done from are
    (All-weaker (λ (b : Item). b.id < n) (λ (b : Item). b.id < from) (λ b less. omega (arith, less, high)) items low)
