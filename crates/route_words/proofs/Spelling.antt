-- Text in UTF-8 has a character behind a hyphen, if it has a byte there.
use Rattle.std.proofs.Common.{◌≡◌, ◌∙◌, ℕ, refl, sym, ap, arith, List, [], ◌∷◌, length, String, string_bytes}
use Rattle.std.specs.declared.alloc.Global.{Global}
use Rattle.std.specs.Str.{IsUtf8, chars, encode_utf8_all}
use Rattle.std.specs.Char.{encode_utf8}
use Rattle.std.proofs.lemmas.Str.{IsUtf8-string_bytes, chars_from_encodes}
use Rattle.route_words.specs.Parts.{Word}
use Rattle.route_words.specs.Words.{texts}
use Rattle.route_words.proofs.Reading.{AreSpelt}
use Rattle.route_words.proofs.Walking.{IsSpelt}

past_hyphen : (y : ℕ) (ys : Word) → chars (45 ∷ y ∷ ys) ≡ 45 ∷ chars (y ∷ ys)
unfolding chars
past_hyphen y ys = refl

alone : encode_utf8_all (45 ∷ []) ≡ 45 ∷ []
unfolding encode_utf8
alone = refl

pub spelt : (word : Word) → IsUtf8 word → IsSpelt word
spelt word u y ys is = by (chars (y ∷ ys)) refl
  where
    by : (cs : List ℕ) → chars (y ∷ ys) ≡ cs → (x : ℕ) × (xs : List ℕ) × (chars (y ∷ ys) ≡ x ∷ xs)
    by (x ∷ xs) e = (x, xs, e)
    by [] e =
        let chars_are : u.0 ≡ 45 ∷ [] = chars_from_encodes u.0 word u u.1.1 ∙ ap chars is ∙ past_hyphen y ys
        ∙ ap (λ (cs : List ℕ). 45 ∷ cs) e in
        let short : 45 ∷ y ∷ ys ≡ 45 ∷ [] = sym is ∙ sym u.1.1 ∙ ap encode_utf8_all chars_are ∙ alone in
        absurd (let n = ap length short in omega (arith, n))

-- the words of a program are in UTF-8
pub words_spelt : (words : List (String Global)) → AreSpelt (texts words)
words_spelt [] = tt
words_spelt (w ∷ ws) = (spelt (string_bytes w) (IsUtf8-string_bytes w), words_spelt ws)
