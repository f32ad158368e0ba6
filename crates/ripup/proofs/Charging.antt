-- Routed items in the way of a probe, counted from id to id.
use Rattle.std.proofs.Common.{◌≡◌, ℕ, ◌+◌, ◌-◌, ◌<◌, ◌≤◌, ◌^◌, List, ◌++◌, length, inl, inr, arith, sym, ◌∙◌, subst}
use Rattle.std.proofs.Common.{refl, ap, append_assoc}
use Rattle.std.specs.Prelude.{Contains, All, Option, Some, None}
use Rattle.std.proofs.lemmas.List.Elements.{All-contains, All-append, All-weaker, Contains-append_cases}
use Rattle.std.proofs.lemmas.List.Elements.{Contains-append_left, Contains-append_right}
use Rattle.pcb_model.specs.declared.item.Item.{Item}
use Rattle.pcb_model.specs.declared.item.Probe.{Probe}
use Rattle.pcb_model.specs.declared.design.Design.{Design}
use Rattle.pcb_model.specs.Pairs.{ProbeAgrees}
use Rattle.pcb_model.specs.Sound.{IsSound, Serves}
use Rattle.pcb_model.specs.Copper.{Ascends, Finds}
use Rattle.ripup.specs.Rips.{IsInWay, CountsTo}
use Rattle.ripup.specs.inner.Steps.{IsPassed}
use Rattle.ripup.proofs.Counting.{goes_on, none_counted, none_of, adds_up}
use Rattle.ripup.proofs.Passing.{splits, parted, later_rises}
use Rattle.ripup.proofs.Fixed.{fixed_held, fixed_low, high_routed, low_fixed, routed_high}

abbrev number : Item → ℕ
number b = b.id

no_other : (b : Item) → None ≡ Some b.id → ⊥
no_other b e = cc

module _ (d : Design) (items : List Item) (net : ℕ) (p : Probe) where
  -- what a search for blocks answers
  abbrev pub NextBlock : ℕ → Option ℕ → Type 0
  NextBlock from found = Finds (λ b. ProbeAgrees d net p b → ⊥) (ProbeAgrees d net p) from None items found

  module _ (sound : IsSound d) (serves : Serves items d) (up : Ascends items) where
    -- ---- the fixed items
    pub all_agree : NextBlock 0 None → (b : Item) → Contains d.fixed b → ProbeAgrees d net p b
    all_agree f b h = f b (fixed_held d items sound serves b h) (omega arith, no_other b)

    pub first_high : (id : ℕ) → NextBlock 0 (Some id) → length d.fixed ≤ id → (b : Item) → Contains d.fixed b
        → ProbeAgrees d net p b
    first_high id f high b h =
        let low = fixed_low d items sound serves b h in
        f.before b (fixed_held d items sound serves b h) (omega arith, no_other b) (omega arith)

    pub first_low : (id : ℕ) → NextBlock 0 (Some id) → id < length d.fixed
        → ((b : Item) → Contains d.fixed b → ProbeAgrees d net p b) → ⊥
    first_low id f low all =
        let e : f.item.id ≡ id = f.id_is in
        f.holds (all f.item (low_fixed d items sound serves f.item up f.there (omega arith)))

    -- ---- the routed ones
    pub begins : IsPassed d items net p (length d.fixed) 0
    begins =
        let parts = parted number items (length d.fixed) up in
        record {
          before = parts.before;
          rest = parts.rest;
          items_are = parts.xs_are;
          counted = none_of (IsInWay d net p) parts.before (λ b h way.
              let there : Contains items b = subst (λ (xs : List Item). Contains xs b) (sym parts.xs_are)
              (Contains-append_left parts.before parts.rest b h) in
              let high = routed_high d items sound serves b up there way.routed in
              let low : b.id < length d.fixed = All-contains
              (λ (x : Item). x.id < length d.fixed) parts.before b parts.below h in absurd (omega arith));
          below = parts.below;
          above = parts.above;
          behind = omega arith;
        }

    pub passes : (from id n : ℕ) → IsPassed d items net p from n → NextBlock from (Some id)
        → IsPassed d items net p (id + 1) (n + 1)
    passes from id n h f =
        let b = f.item in
        let e : b.id ≡ id = f.id_is in
        let behind : length d.fixed ≤ from = h.behind in
        let from_on : from ≤ b.id = f.looked_at.0 in
        let in_rest : Contains h.rest b = elim (Contains-append_cases h.before h.rest b
        (subst (λ (xs : List Item). Contains xs b) h.items_are f.there)) [
          | inl old ↦ let low : b.id < from = All-contains (λ
              (x : Item). x.id < from) h.before b h.below old in absurd (omega arith)
          | inr new ↦ new
        ] in
        let up_rest = later_rises number h.before h.rest (subst Ascends h.items_are up) in
        let s = splits number (IsInWay d net p) h.rest b up_rest in_rest
        (record { routed = high_routed d items sound serves b f.there (omega arith); clashes = f.holds })
        (λ y y_in lt way.
        let there : Contains items y = subst (λ (xs : List Item). Contains xs y) (sym h.items_are)
        (Contains-append_right h.before h.rest y y_in) in
        let y_from : from ≤ y.id = All-contains (λ (x : Item). from ≤ x.id) h.rest y h.above y_in in
        way.clashes (f.before y there (y_from, no_other y) (omega arith))) in
        record {
          before = h.before ++ s.mid;
          rest = s.tail;
          items_are = h.items_are ∙ ap (λ (xs : List Item). h.before ++ xs) s.xs_are
              ∙ sym (append_assoc h.before s.mid s.tail);
          counted = adds_up (IsInWay d net p) h.before s.mid n 1 h.counted s.one;
          below = All-append (λ (x : Item). x.id < id + 1) h.before s.mid
              (All-weaker (λ (x : Item). x.id < from) (λ (x : Item). x.id < id + 1)
              (λ x l. omega arith) h.before h.below)
              (All-weaker (λ (x : Item). x.id < b.id + 1) (λ (x : Item). x.id < id + 1)
              (λ x l. omega arith) s.mid s.below);
          above = All-weaker (λ (x : Item). b.id + 1 ≤ x.id) (λ (x : Item). id + 1 ≤ x.id)
              (λ x l. omega arith) s.tail s.above;
          behind = omega arith;
        }

    closes : (from n : ℕ) → (h : IsPassed d items net p from n) → n ≤ 16
        → ((b : Item) → Contains h.rest b → ¬ (IsInWay d net p b)) → CountsTo (IsInWay d net p) 16 items n
    closes from n h few none =
        subst (λ (xs : List Item). CountsTo (IsInWay d net p) 16 xs n) (sym h.items_are)
        (goes_on (IsInWay d net p) h.before h.rest n 0 (16 - n) 16 n (omega arith) (omega arith) h.counted
        (none_counted (IsInWay d net p) (16 - n) h.rest none))

    pub no_more : (from n : ℕ) → IsPassed d items net p from n → n ≤ 16 → NextBlock from None
        → CountsTo (IsInWay d net p) 16 items n
    no_more from n h few f = closes from n h few (λ b b_in way.
        let there : Contains items b = subst (λ (xs : List Item). Contains xs b) (sym h.items_are)
        (Contains-append_right h.before h.rest b b_in) in
        way.clashes (f b there (All-contains (λ (x : Item). from ≤ x.id) h.rest b h.above b_in, no_other b)))

    pub no_higher : (from n : ℕ) → IsPassed d items net p from n → n ≤ 16 → 2 ^ 64 ≤ from
        → All (λ (b : Item). b.id < 2 ^ 64) items → CountsTo (IsInWay d net p) 16 items n
    no_higher from n h few high within = closes from n h few (λ b b_in way.
        let there : Contains items b = subst (λ (xs : List Item). Contains xs b) (sym h.items_are)
        (Contains-append_right h.before h.rest b b_in) in
        let low : b.id < 2 ^ 64 = All-contains (λ (x : Item). x.id < 2 ^ 64) items b within there in
        let from_on : from ≤ b.id = All-contains (λ (x : Item). from ≤ x.id) h.rest b h.above b_in in
        absurd (omega arith))

    pub limit_met : (from : ℕ) → IsPassed d items net p from 16 → CountsTo (IsInWay d net p) 16 items 16
    limit_met from h =
        subst (λ (xs : List Item). CountsTo (IsInWay d net p) 16 xs 16) (sym h.items_are)
        (goes_on (IsInWay d net p) h.before h.rest 16 0 0 16 16 refl refl h.counted refl)
