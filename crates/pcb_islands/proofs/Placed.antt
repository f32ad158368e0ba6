-- Ids that are given one place, id by id.
use Rattle.std.proofs.Common.{◌≡◌, ℕ, List, [], ◌∷◌, ◌++◌, Some, sym, ◌∙◌, refl, subst, inl, inr}
use Rattle.std.specs.Prelude.{Contains}
use Rattle.std.proofs.lemmas.List.Elements.{Contains-push, Contains-push_cases, Contains-append_left}
use Rattle.pcb_islands.specs.inner.Numbers.{place_at, IsPlaced}
use Rattle.pcb_islands.specs.inner.Progress.{ArePlaced}
use Rattle.pcb_islands.proofs.Flooded.{in_none}
use Rattle.pcb_islands.proofs.Pads.{same_or_not}

-- where no id is placed, nothing changes
pub placed_none : (places : List (ℕ × ℕ)) (place : ℕ) → ArePlaced places [] place places
placed_none places place = record { here = λ q h. absurd (in_none q h); others = λ q none. refl }

-- one id more is placed
pub placed_more : (old mid new : List (ℕ × ℕ)) (ids : List ℕ) (id place : ℕ) → ArePlaced old ids place mid
    → IsPlaced mid id place new → ArePlaced old (ids ++ id ∷ []) place new
placed_more old mid new ids id place before one = record {
  here = λ q h. elim (same_or_not q id) [
    | inl same ↦ subst (λ (v : ℕ). place_at new v ≡ Some place) (sym same) one.here
    | inr apart ↦ elim (Contains-push_cases ids id q h) [
      | inl known ↦ one.others q apart ∙ before.here q known
      | inr same ↦ absurd (apart (sym same))
    ]
  ];
  others = λ q none. one.others q (λ same. none (subst (Contains (ids ++ id ∷ [])) (sym same) (Contains-push ids id)))
      ∙ before.others q (λ h. none (Contains-append_left ids (id ∷ []) q h));
}
