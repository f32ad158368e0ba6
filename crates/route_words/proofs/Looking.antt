-- What `clap` sees in a word, by what it looks like.
use Rattle.std.proofs.Common.{◌≡◌, ◌==◌, ℕ, Bool, true, false, refl, [], ◌∷◌, Some, None, if◌then◌else◌, subst, sym}
use Rattle.std.proofs.lemmas.Bool.{eqb-true}
use Rattle.std.specs.Str.{bytes_eq}
use Rattle.clap.specs.Lexer.{long_of, short_of}
use Rattle.route_words.specs.Parts.{Look, Word, dashes, long, look_of, look_past_one, look_past_two, other, plain}

abbrev pub two : Word
two = 45 ∷ 45 ∷ []

abbrev pub Looks : Word → Look → Type 0
Looks w dashes = bytes_eq w two ≡ true
Looks w (long x v) = (bytes_eq w two ≡ false) × (long_of w ≡ Some (x, v))
Looks w other = (bytes_eq w two ≡ false) × (long_of w ≡ None) × (y : ℕ) × (ys : Word) × (w ≡ 45 ∷ y ∷ ys)
    × (short_of w ≡ Some (y ∷ ys))
Looks w plain = (bytes_eq w two ≡ false) × (long_of w ≡ None) × (short_of w ≡ None)

past_two : (rest : Word) → Looks (45 ∷ 45 ∷ rest) (look_past_two rest)
past_two [] = refl
past_two (x ∷ xs) = (refl, refl)

past_one : (rest : Word) → Looks (45 ∷ rest) (look_past_one rest)
past_one [] = (refl, refl, refl)
past_one (d ∷ rest) = by (d == 45) refl
  where
    by : (b : Bool) → (d == 45) ≡ b → Looks (45 ∷ d ∷ rest) (if b then look_past_two rest else other)
    by false e = (rw e refl, rw e refl, d, rest, refl, rw e refl)
    by true e = subst (λ x. Looks (45 ∷ x ∷ rest) (look_past_two rest)) (sym (eqb-true d 45 e)) (past_two rest)

pub looks : (w : Word) → Looks w (look_of w)
looks [] = (refl, refl, refl)
looks (c ∷ rest) = by (c == 45) refl
  where
    by : (b : Bool) → (c == 45) ≡ b → Looks (c ∷ rest) (if b then look_past_one rest else plain)
    by false e = (rw e refl, rw e refl, rw e refl)
    by true e = subst (λ x. Looks (x ∷ rest) (look_past_one rest)) (sym (eqb-true c 45 e)) (past_one rest)
