-- The refusal that counts is the first of its list: by the place, and at one place by the number.
use Rattle.std.specs.Prelude.{◌≡◌, ◌≤◌, ◌↔◌, List, [], Some, None, All, Contains}
use Rattle.dsn_shapes.specs.declared.refusal.Refusal.{Refusal}
use Rattle.dsn_shapes.specs.Refusals.{least}

-- r has no later place than s, and at the same place no greater number
pub record IsNoLater (r s : Refusal) : Type 0 where
  pub place : r.at ≤ s.at
  pub number : r.at ≡ s.at → r.number ≤ s.number

-- r is one of these refusals, and no other comes before it
pub record IsFirst (rs : List Refusal) (r : Refusal) : Type 0 where
  pub among : Contains rs r
  pub no_later : All (IsNoLater r) rs

-- the refusal that counts is the first; none counts just where there is none
pub record FirstCounts : Type 0 where
  pub first : (rs : List Refusal) (r : Refusal) → least rs ≡ Some r → IsFirst rs r
  pub none : (rs : List Refusal) → (least rs ≡ None) ↔ (rs ≡ [])
