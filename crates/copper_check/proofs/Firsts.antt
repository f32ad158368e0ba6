-- The first item of which something doesn't hold.
use Rattle.std.proofs.Common.{◌≡◌, ◌∙◌, inl, inr, ℕ, ◌+◌, ◌<◌, List, ap, arith, get_or, length, refl, subst, sym}
use Rattle.std.proofs.lemmas.Bool.{cases_lt}
use Rattle.pcb_model.specs.declared.item.Item.{Item}
use Rattle.pcb_model.specs.Copper.{Ascends}
use Rattle.pcb_islands.proofs.Joined.{read_at}
use Rattle.copper_check.specs.Checks.{IsFirstBad}

module _ (Good : Item → Type 0) (items : List Item) (i : ℕ) (a : Item) (within : i < length items)
    (is : a ≡ get_or items i a) where
  -- where it holds of the item, it holds of one more
  pub good_more : ((k : ℕ) (x : Item) → k < i → Good (get_or items k x)) → Good a
      → (k : ℕ) (x : Item) → k < i + 1 → Good (get_or items k x)
  good_more before here k x less = elim (cases_lt k i) [
    | inl early ↦ before k x early
    | inr late ↦
        let same : i ≡ k = omega (arith, less, late) in
        subst Good (sym (read_at items a (i, within, sym is) x) ∙ ap (λ (n : ℕ). get_or items n x) same) here
  ]

  -- where it doesn't, the item is the first
  pub first_bad : Ascends items → ((k : ℕ) (x : Item) → k < i → Good (get_or items k x)) → (Good a → ⊥)
      → IsFirstBad (λ b. Good b → ⊥) Good items a.id
  first_bad up before bad = record {
    item = a;
    there = (i, within, sym is);
    id_is = refl;
    bad = bad;
    before = λ b q less. elim (cases_lt q.0 i) [
      | inl early ↦ subst Good q.2 (before q.0 b early)
      | inr late ↦ elim (cases_lt i q.0) [
        | inl after ↦
            let rise = up i q.0 b after q.1 in
            let first = ap (λ (x : Item). x.id) (read_at items a (i, within, sym is) b) in
            let second = ap (λ (x : Item). x.id) q.2 in
            absurd (omega (arith, less, rise, first, second))
        | inr only ↦
            let same : q.0 ≡ i = omega (arith, late, only) in
            let one = ap (λ (x : Item). x.id)
            (sym q.2 ∙ ap (λ (n : ℕ). get_or items n b) same ∙ read_at items a (i, within, sym is) b) in
            absurd (omega (arith, less, one))
      ]
    ];
  }
