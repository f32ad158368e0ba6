-- Items of copper taken one after another, in order of id.
use Rattle.std.proofs.Common.{◌≡◌, inl, inr, ℕ, ◌+◌, ◌<◌, ◌≤◌, zero, suc, refl, sym, ◌∙◌, ap, subst, List, [], ◌∷◌}
use Rattle.std.proofs.Common.{◌++◌, arith}
use Rattle.std.specs.Prelude.{All, AllPairs, Contains}
use Rattle.std.proofs.Common.{get_or}
use Rattle.std.proofs.lemmas.List.{append-nil, append_assoc}
use Rattle.std.proofs.lemmas.List.Elements.{All-nil, All-cons, All-append, All-weaker, All-contains}
use Rattle.std.proofs.lemmas.List.Elements.{Contains-append_right, Contains-append_cases, Contains-get_or}
use Rattle.pcb_model.specs.declared.item.Item.{Item}
use Rattle.pcb_model.specs.Copper.{Ascends, IsFirstFrom}

-- the first element is one of all
pub in_here : {X : Type 0} (x : X) (xs : List X) → Contains (x ∷ xs) x
in_here x xs = (0, omega arith, refl)

-- and one behind it is
pub in_later : {X : Type 0} (y x : X) (xs : List X) → Contains xs x → Contains (y ∷ xs) x
in_later y x xs (k, within, is) = (suc k, omega (arith, within), is)

-- the first element with each other
pub all_front : {X : Type 0} (R : X → X → Type 0) (x : X) (xs : List X) → AllPairs R (x ∷ xs) → All (R x) xs
all_front R x xs pairs = λ k d within. pairs 0 (suc k) d (omega arith) (omega (arith, within))

-- the pairs of the others
pub pairs_rest : {X : Type 0} (R : X → X → Type 0) (x : X) (xs : List X) → AllPairs R (x ∷ xs) → AllPairs R xs
pairs_rest R x xs pairs = λ i j d before within. pairs (suc i) (suc j) d (omega (arith, before)) (omega (arith, within))

-- what each element has, all have
pub all_from : {X : Type 0} (P : X → Type 0) (xs : List X) → ((x : X) → Contains xs x → P x) → All P xs
all_from P xs each = λ k d within. each (get_or xs k d) (Contains-get_or xs k d within)

-- these are the items below an id, in order, and the rest are from there on
pub record AreBelow (items : List Item) (from : ℕ) (done : List Item) : Type 0 where
  pub rest : List Item
  pub all_is : items ≡ done ++ rest
  pub below : All (λ (b : Item). b.id < from) done
  pub behind : All (λ (b : Item). from ≤ b.id) rest

-- no id is below 0
pub none_below : (items : List Item) → AreBelow items 0 []
none_below items = record {
  rest = items;
  all_is = refl;
  below = All-nil (λ (b : Item). b.id < 0);
  behind = λ k d within. omega arith;
}

-- the order of ids
abbrev Before : Item → Item → Type 0
Before a b = a.id < b.id

-- what is behind others ascends too
ascends_rest : (done rest : List Item) → Ascends (done ++ rest) → Ascends rest
ascends_rest [] rest up = up
ascends_rest (a ∷ done) rest up = ascends_rest done rest (pairs_rest Before a (done ++ rest) up)

record BeginsWith (rest : List Item) (a : Item) : Type 0 where
  later : List Item
  is : rest ≡ a ∷ later

-- the first item from an id on begins the rest
begins_with : (rest : List Item) (from : ℕ) (a : Item) → Ascends rest → All (λ (b : Item). from ≤ b.id) rest
    → Contains rest a → ((b : Item) → Contains rest b → b.id < a.id → b.id < from) → BeginsWith rest a
begins_with [] from a up behind (k, within, is) before = absurd (omega (arith, within))
begins_with (b ∷ rest) from a up behind (zero, within, is) before =
    record { later = rest; is = ap (λ (x : Item). x ∷ rest) is }
begins_with (b ∷ rest) from a up behind (suc k, within, is) before =
    let less : b.id < a.id =
    All-contains (λ (x : Item). b.id < x.id) rest a (all_front Before b rest up) (k, omega (arith, within), is) in
    let low : b.id < from = before b (in_here b rest) less in
    let high : from ≤ b.id = behind 0 b (omega arith) in
    absurd (omega (arith, low, high))

-- with the first item from the id on they are those below the next id
module _ (items done : List Item) (from : ℕ) (a : Item) (up : Ascends items) (are : AreBelow items from done)
    (first : IsFirstFrom from items a) where
  -- the next item isn't done
  not_done : Contains done a → ⊥
  not_done there =
      let low : a.id < from = All-contains (λ (b : Item). b.id < from) done a are.below there in
      let high : from ≤ a.id = first.from_on in
      omega (arith, low, high)

  -- so it is among the rest
  to_come : Contains are.rest a
  to_come =
      let there : Contains (done ++ are.rest) a = subst (λ (xs : List Item). Contains xs a) are.all_is first.there in
      elim (Contains-append_cases done are.rest a there) [
        | inl before ↦ absurd (not_done before)
        | inr behind ↦ behind
      ]

  -- which ascends
  rest_up : Ascends are.rest
  rest_up = ascends_rest done are.rest (subst Ascends are.all_is up)

  -- and begins with it
  next : BeginsWith are.rest a
  next = begins_with are.rest from a rest_up are.behind to_come
      (λ b there less. first.before b
      (subst (λ (xs : List Item). Contains xs b) (sym are.all_is) (Contains-append_right done are.rest b there)) less)

  -- the next item is done
  pub one_below : AreBelow items (a.id + 1) (done ++ a ∷ [])
  one_below = record {
    rest = next.later;
    all_is = are.all_is ∙ (ap (λ (xs : List Item). done ++ xs) next.is ∙ sym (append_assoc done (a ∷ []) next.later));
    below = All-append (λ (b : Item). b.id < a.id + 1) done (a ∷ [])
        (All-weaker (λ (b : Item). b.id < from) (λ (b : Item). b.id < a.id + 1)
        (λ b low. let high : from ≤ a.id = first.from_on in omega (arith, low, high)) done are.below)
        (All-cons (λ (b : Item). b.id < a.id + 1) a [] (omega arith) (All-nil (λ (b : Item). b.id < a.id + 1)));
    behind = All-weaker (λ (b : Item). a.id < b.id) (λ (b : Item). a.id + 1 ≤ b.id) (λ b less. omega (arith, less))
        next.later (all_front Before a next.later (subst Ascends next.is rest_up));
  }

-- no item is both below an id and not below it
none_left : (rest : List Item) (from : ℕ) → All (λ (b : Item). from ≤ b.id) rest → All (λ (b : Item). b.id < from) rest
    → rest ≡ []
none_left [] from behind below = refl
none_left (b ∷ rest) from behind below =
    let high : from ≤ b.id = behind 0 b (omega arith) in
    let low : b.id < from = below 0 b (omega arith) in
    absurd (omega (arith, low, high))

-- where all items are below the id, they are all
pub all_below : (items done : List Item) (from : ℕ) → AreBelow items from done
    → All (λ (b : Item). b.id < from) items → done ≡ items
all_below items done from are low =
    let rest_low : All (λ (b : Item). b.id < from) are.rest = all_from (λ (b : Item). b.id < from) are.rest
    (λ b there. All-contains (λ (x : Item). x.id < from) items b low
    (subst (λ (xs : List Item). Contains xs b) (sym are.all_is) (Contains-append_right done are.rest b there))) in
    sym (are.all_is
    ∙ (ap (λ (xs : List Item). done ++ xs) (none_left are.rest from are.behind rest_low) ∙ append-nil done))

-- so it is where no id can be above the last one
pub all_by : (items done : List Item) (from n : ℕ) → AreBelow items from done → n ≤ from
    → All (λ (b : Item). b.id < n) items → done ≡ items
all_by items done from n are high low =
    all_below items done from are
    (All-weaker (λ (b : Item). b.id < n) (λ (b : Item). b.id < from) (λ b less. omega (arith, less, high)) items low)
