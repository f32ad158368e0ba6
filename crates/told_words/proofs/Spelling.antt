-- A spelled name is told by its bytes, where a byte follows that needs quotes.
use Rattle.std.proofs.Common.{◌≡◌, ◌≢◌, ℕ, Bool, true, false, List, [], ◌∷◌, ◌++◌, length, ap, sym, ◌∙◌, refl, drop}
use Rattle.std.proofs.Common.{get_or, ne_eqb}
use Rattle.std.specs.Prelude.{not, ◌==◌, codes, if◌then◌else◌}
use Rattle.std.specs.List.{list_all}
use Rattle.std.proofs.lemmas.List.{append_assoc}
use Rattle.std.proofs.lemmas.List.Elements.{All-head, All-tail}
use Rattle.std.proofs.lemmas.Bool.{and_parts, both_ways}
use Rattle.pcb_model.specs.Sound.{IsPrintable}
use Rattle.ses_writer.specs.Words.{is_bare, is_bare_byte, spelled}
use Rattle.told_words.specs.Stops.{Stops}
use Rattle.told_words.proofs.Bytes.{cut}

-- a byte that can stand between quotes
abbrev is_inner : ℕ → Bool
is_inner b = not (b == 34)

-- those of a printable name can
inner : (name : List ℕ) → IsPrintable name → list_all is_inner name ≡ true
inner [] h = refl
inner (b ∷ bs) h = rw (ne_eqb b 34 (All-head (λ (c : ℕ). c ≢ 34) b bs h))
    (inner bs (All-tail (λ (c : ℕ). c ≢ 34) b bs h))

-- the name with quotes or without
abbrev spelled_if : Bool → List ℕ → List ℕ
spelled_if bare name = if bare then name else codes "\"" ++ name ++ codes "\""

-- the bytes of a bare name need no quotes
bytes_bare : (name : List ℕ) → is_bare name ≡ true → list_all is_bare_byte name ≡ true
bytes_bare name h = (and_parts (not (length name == 0)) (list_all is_bare_byte name) h).1

-- a bare name doesn't begin with the quotation mark
not_quoted : (name r t : List ℕ) → is_bare name ≡ true → name ++ r ≡ 34 ∷ t → ⊥
not_quoted [] r t h e = cc
not_quoted (b ∷ bs) r t h e = both_ways (is_bare_byte b) (ap is_bare_byte (ap (λ (xs : List ℕ). get_or xs 0 0) e))
    (and_parts (is_bare_byte b) (list_all is_bare_byte bs) (bytes_bare (b ∷ bs) h)).0

-- names with quotes or without
by_quotes : (a b : Bool) (name other r t : List ℕ) → is_bare name ≡ a → is_bare other ≡ b → IsPrintable name
    → IsPrintable other → Stops is_bare_byte r → Stops is_bare_byte t → spelled_if a name ++ r ≡ spelled_if b other ++ t
    → (name ≡ other) × (r ≡ t)
by_quotes true true name other r t p q n o s u e =
    cut is_bare_byte name other r t (bytes_bare name p) (bytes_bare other q) s u e
by_quotes true false name other r t p q n o s u e = absurd (not_quoted name r ((other ++ codes "\"") ++ t) p e)
by_quotes false true name other r t p q n o s u e = absurd (not_quoted other t ((name ++ codes "\"") ++ r) q (sym e))
by_quotes false false name other r t p q n o s u e =
    let inside : (name ++ codes "\"") ++ r ≡ (other ++ codes "\"") ++ t = ap (λ (xs : List ℕ). drop 1 xs) e in
    let both = cut is_inner name other (34 ∷ r) (34 ∷ t) (inner name n) (inner other o) refl refl
    (sym (append_assoc name (codes "\"") r) ∙ inside ∙ append_assoc other (codes "\"") t) in
    (both.0, ap (λ (xs : List ℕ). drop 1 xs) both.1)

-- a spelled name tells the name
pub spelled_tells : (name other r t : List ℕ) → IsPrintable name → IsPrintable other → Stops is_bare_byte r
    → Stops is_bare_byte t → spelled name ++ r ≡ spelled other ++ t → (name ≡ other) × (r ≡ t)
unfolding spelled
spelled_tells name other r t n o s u e = by_quotes (is_bare name) (is_bare other) name other r t refl refl n o s u e
