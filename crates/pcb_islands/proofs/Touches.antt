-- The search for what touches an item, from id to id.
use Rattle.std.proofs.Common.{◌≡◌, ℕ, ◌+◌, ◌<◌, ◌≤◌, ◌^◌, List, [], ◌∷◌, ◌++◌, Option, Some, None, sym, subst, inl, inr}
use Rattle.std.proofs.Common.{◌⊎◌, arith}
use Rattle.std.specs.Prelude.{Contains, All}
use Rattle.std.proofs.lemmas.Bool.{cases_lt}
use Rattle.std.proofs.lemmas.List.Elements.{All-nil, All-push, All-contains, Contains-append_left, Contains-push}
use Rattle.pcb_model.specs.declared.item.Item.{Item}
use Rattle.pcb_model.specs.Pairs.{AreTouching}
use Rattle.pcb_model.specs.Copper.{Finds, IsLookedAt}
use Rattle.pcb_islands.specs.inner.Flooding.{HasIdWithin, HasIdTouching, AreTouchedBelow, AreTouched}

-- one of two numbers is less, or they are one
pub below_or_same : (m n : ℕ) → (m < n) ⊎ ((n < m) ⊎ (m ≡ n))
below_or_same m n =
    elim (cases_lt m n) [
      | inl h ↦ inl h
      | inr h ↦
          elim (cases_lt n m) [ inl k ↦ inr (inl k) | inr k ↦ let e : m ≡ n = omega arith in inr (inr e) ]
    ]

-- what the search answers of the items that touch a
abbrev pub NextTouch : List Item → Item → ℕ → Option ℕ → Type 0
NextTouch items a from found = Finds (AreTouching a) (λ b. AreTouching a b → ⊥) from (Some a.id) items found

-- an item that isn't looked at has a lesser id, or a's
looked_at : (a b : Item) (from : ℕ) → (b.id < from) ⊎ ((b.id ≡ a.id) ⊎ IsLookedAt from (Some a.id) b)
looked_at a b from = elim (cases_lt b.id from) [
  | inl h ↦ inl h
  | inr h ↦ elim (below_or_same b.id a.id) [
    | inl k ↦ inr (inr (h, λ e. let same : a.id ≡ b.id = cc e in absurd (omega arith)))
    | inr k ↦ elim k [
      | inl g ↦ inr (inr (h, λ e. let same : a.id ≡ b.id = cc e in absurd (omega arith)))
      | inr g ↦ inr (inl g)
    ]
  ]
]

pub none_touched : (items : List Item) (a : Item) → AreTouchedBelow items a 0 []
none_touched items a =
    record { each = All-nil (HasIdTouching items a); below = λ b there touch less. absurd (omega arith) }

-- one id more
pub one_touched : (items : List Item) (a : Item) (from id : ℕ) (ids : List ℕ) → AreTouchedBelow items a from ids
    → NextTouch items a from (Some id) → AreTouchedBelow items a (id + 1) (ids ++ id ∷ [])
one_touched items a from id ids t f = record {
  each = All-push (HasIdTouching items a) ids id t.each
      (record { item = f.item; there = f.there; id_is = f.id_is; touches = f.holds });
  below = λ b there touch less. elim (looked_at a b from) [
    | inl h ↦ elim (t.below b there touch h) [
      | inl own ↦ inl own
      | inr old ↦
          inr (Contains-append_left ids (id ∷ []) b.id old)
    ]
    | inr k ↦ elim k [
      | inl own ↦ inl own
      | inr looked ↦ elim (below_or_same b.id id) [
        | inl before ↦ absurd (f.before b there looked before touch)
        | inr n ↦ elim n [
          | inl after ↦ absurd (omega arith)
          | inr same ↦ inr (subst (λ q. Contains (ids ++ id ∷ []) q) (sym same) (Contains-push ids id))
        ]
      ]
    ]
  ];
}

-- no more
pub all_touched : (items : List Item) (a : Item) (from : ℕ) (ids : List ℕ) → AreTouchedBelow items a from ids
    → NextTouch items a from None → AreTouched items a ids
all_touched items a from ids t f = record {
  each = t.each;
  whole = λ b there touch. elim (looked_at a b from) [
    | inl h ↦ t.below b there touch h
    | inr k ↦ elim k [ inl own ↦ inl own | inr looked ↦ absurd (f b there looked touch) ]
  ];
}

-- no id is greater
pub last_touched : (items : List Item) (a : Item) (from : ℕ) (ids : List ℕ) → AreTouchedBelow items a from ids
    → 2 ^ 64 ≤ from → All HasIdWithin items → AreTouched items a ids
last_touched items a from ids t high within = record {
  each = t.each;
  whole = λ b there touch. let small : b.id < 2 ^ 64 = All-contains HasIdWithin items b within there in
      t.below b there touch (omega arith);
}
