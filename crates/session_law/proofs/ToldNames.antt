-- Layers and padstacks are told by their printed names.
use Rattle.std.proofs.Common.{◌≡◌, ◌≢◌, inl, inr, ℕ, ◌<◌, List, [], ◌∷◌, ◌++◌, length, get_or}
use Rattle.std.proofs.Common.{ap, sym, ◌∙◌, subst, arith}
use Rattle.std.specs.Prelude.{All, AllPairs, slice_get}
use Rattle.std.specs.Option.{option_map_or}
use Rattle.std.proofs.lemmas.Bool.{cases_order}
use Rattle.std.proofs.lemmas.Option.{slice_get-get_or}
use Rattle.pcb_model.specs.declared.design.BoardLayer.{BoardLayer}
use Rattle.pcb_model.specs.declared.design.Padstack.{Padstack}
use Rattle.pcb_model.specs.declared.design.Design.{Design}
use Rattle.pcb_model.specs.Sound.{IsPrintable, HasDistinctNames, HasPrintableNames}
use Rattle.ses_writer.specs.Words.{is_bare_byte}
use Rattle.ses_writer.specs.Session.{layer_word, padstack_word}
use Rattle.told_words.specs.Stops.{Stops}
use Rattle.told_words.proofs.Spelling.{spelled_tells}

module _ (X : Type 0) (name : X → List ℕ) where
  -- the name at a place
  abbrev named : List X → ℕ → List ℕ
  named xs i = option_map_or name (slice_get xs i) []

  -- it is that of the element there
  named_is : (xs : List X) (i : ℕ) (x : X) → i < length xs → named xs i ≡ name (get_or xs i x)
  named_is xs i x h = ap (λ o. option_map_or name o []) (slice_get-get_or xs i x h)

  -- where names differ, a name has one place
  place_at : (xs : List X) (x : X) (i j : ℕ) → AllPairs (λ (a b : X). name a ≢ name b) xs → i < length xs
      → j < length xs → named xs i ≡ named xs j → i ≡ j
  place_at xs x i j differ p q e =
      let same = sym (named_is xs i x p) ∙ e ∙ named_is xs j x q in
      elim (cases_order i j) [
        | inl one ↦ one
        | inr h ↦ elim h [
          | inl less ↦ absurd (differ i j x less q same)
          | inr more ↦ absurd (differ j i x more p (sym same))
        ]
      ]

  -- so it is in any list
  one_place : (xs : List X) (i j : ℕ) → AllPairs (λ (a b : X). name a ≢ name b) xs → i < length xs → j < length xs
      → named xs i ≡ named xs j → i ≡ j
  one_place [] i j differ p q e = absurd (omega (arith, p))
  one_place (x ∷ xs) i j differ p q e = place_at (x ∷ xs) x i j differ p q e

  -- and can be printed
  printable_at : (xs : List X) (i : ℕ) → All (λ (a : X). IsPrintable (name a)) xs → i < length xs
      → IsPrintable (named xs i)
  printable_at [] i h p = absurd (omega (arith, p))
  printable_at (x ∷ xs) i h p = subst IsPrintable (sym (named_is (x ∷ xs) i x p)) (h i x p)

-- how a layer is called
abbrev layer_name : BoardLayer → List ℕ
layer_name l = l.name

-- how a padstack is called
abbrev padstack_name : Padstack → List ℕ
padstack_name s = s.name

-- a layer's word tells the layer
pub layer_tells : (d : Design) (i j : ℕ) (r t : List ℕ) → HasDistinctNames d → HasPrintableNames d → i < length d.layers
    → j < length d.layers → Stops is_bare_byte r → Stops is_bare_byte t → layer_word d i ++ r ≡ layer_word d j ++ t
    → (i ≡ j) × (r ≡ t)
layer_tells d i j r t differ plain p q s u e =
    let both = spelled_tells (named BoardLayer layer_name d.layers i) (named BoardLayer layer_name d.layers j) r t
    (printable_at BoardLayer layer_name d.layers i plain.layers p)
    (printable_at BoardLayer layer_name d.layers j plain.layers q) s u e in
    (one_place BoardLayer layer_name d.layers i j differ.layers p q both.0, both.1)

-- a padstack's word tells the padstack
pub padstack_tells : (d : Design) (i j : ℕ) (r t : List ℕ) → HasDistinctNames d → HasPrintableNames d
    → i < length d.padstacks → j < length d.padstacks → Stops is_bare_byte r → Stops is_bare_byte t
    → padstack_word d i ++ r ≡ padstack_word d j ++ t → (i ≡ j) × (r ≡ t)
padstack_tells d i j r t differ plain p q s u e =
    let both = spelled_tells (named Padstack padstack_name d.padstacks i)
    (named Padstack padstack_name d.padstacks j) r t
    (printable_at Padstack padstack_name d.padstacks i plain.padstacks p)
    (printable_at Padstack padstack_name d.padstacks j plain.padstacks q) s u e in
    (one_place Padstack padstack_name d.padstacks i j differ.padstacks p q both.0, both.1)
