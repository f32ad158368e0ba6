-- The islands that a report tells of a net, and lines net by net.
use Rattle.std.proofs.Common.{◌≡◌, ◌∙◌, ◌+◌, ◌<◌, ◌≤◌, ℕ, List, [], ◌∷◌, Some, ap, arith}
use Rattle.std.proofs.Common.{inl, inr, length, refl, subst, sym}
use Rattle.std.specs.Prelude.{slice_get}
use Rattle.std.proofs.lemmas.Bool.{cases_lt}
use Rattle.std.proofs.lemmas.Option.{same_Some}
use Rattle.pcb_islands.specs.declared.net.Island.{Island}
use Rattle.report_form.specs.declared.reading.ReadCut.{ReadCut}
use Rattle.route_check.specs.Judged.{islands_told}
use Rattle.route_check.specs.inner.Kept.{HasItsCuts}

-- at most one counts as none
pub told_none : (own : List Island) → length own ≤ 1 → 0 ≡ islands_told own
told_none [] low = refl
told_none (s ∷ []) low = refl
told_none (s ∷ t ∷ own) low = absurd (omega (arith, low))

pub told_all : (own : List Island) → 1 < length own → length own ≡ islands_told own
told_all [] many = absurd (omega (arith, many))
told_all (s ∷ []) many = absurd (omega (arith, many))
told_all (s ∷ t ∷ own) many = refl

-- no more are told than there are
pub told_most : (own : List Island) → islands_told own ≤ length own
told_most [] = omega arith
told_most (s ∷ []) = omega arith
told_most (s ∷ t ∷ own) = omega arith

-- one net more has as many cuts as islands are told
pub line_more : (found : List (List Island)) (nets : List (List ReadCut)) (net : ℕ) (own : List Island)
    (cuts : List ReadCut) → ((i : ℕ) (os : List Island) (ks : List ReadCut) → i < net → slice_get found i ≡ Some os
    → slice_get nets i ≡ Some ks → HasItsCuts os ks) → slice_get found net ≡ Some own → slice_get nets net ≡ Some cuts
    → HasItsCuts own cuts → (i : ℕ) (os : List Island) (ks : List ReadCut) → i < net + 1
    → slice_get found i ≡ Some os → slice_get nets i ≡ Some ks → HasItsCuts os ks
line_more found nets net own cuts before own_at cuts_at is i os ks less at there = elim (cases_lt i net) [
  | inl early ↦ before i os ks early at there
  | inr late ↦
      let same : net ≡ i = omega (arith, less, late) in
      let own_is : own ≡ os = same_Some own os (sym own_at ∙ ap (λ (k : ℕ). slice_get found k) same ∙ at) in
      let cuts_is : cuts ≡ ks = same_Some cuts ks (sym cuts_at ∙ ap (λ (k : ℕ). slice_get nets k) same ∙ there) in
      subst (λ (s : List Island). HasItsCuts s ks) own_is (subst (HasItsCuts own) cuts_is is)
]
