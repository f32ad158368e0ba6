-- What came to a list of items and what went, between an earlier and a later state of it.
use Rattle.std.specs.Prelude.{◌≡◌, ◌⊎◌, ℕ, ◌==◌, Bool, not, filter, List, [], ◌∷◌, Contains}
use Rattle.std.specs.List.{list_any}
use Rattle.pcb_model.specs.declared.item.Item.{Item}

-- ---- by ids
-- an item with the id x is among the items
abbrev pub has_id : List Item → ℕ → Bool
has_id items x = list_any (λ (a : Item). a.id == x) items

-- the items of a whose ids no item of b has, in order
abbrev pub alone : List Item → List Item → List Item
alone a b = filter (λ (x : Item). not (has_id b x.id)) a

-- gone are the items on old alone, and come those on new alone, by id
pub record IsSince (old new gone come : List Item) : Type 0 where
  pub gone_is : gone ≡ alone old new
  pub come_is : come ≡ alone new old

-- an id that both lists have, has one item
pub record AreOneById (a b : List Item) : Type 0 where
  pub same : (x y : Item) → Contains a x → Contains b y → x.id ≡ y.id → x ≡ y

-- ---- by items
-- c holds what a and b hold, in their order
abbrev pub IsMerge : {X : Type 0} → List X → List X → List X → Type 0
IsMerge a b [] = (a ≡ []) × (b ≡ [])
IsMerge {X} a b (x ∷ c) = ((rest : List X) × (a ≡ x ∷ rest) × IsMerge rest b c)
    ⊎ ((rest : List X) × (b ≡ x ∷ rest) × IsMerge a rest c)

-- new holds what old holds without gone and with come
pub record IsChange (old gone come new : List Item) : Type 0 where
  pub kept : List Item
  pub before : IsMerge gone kept old
  pub after : IsMerge come kept new
