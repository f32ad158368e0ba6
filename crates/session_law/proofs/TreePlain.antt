-- How a word of a session is spelled: bare bytes from 42 on, or one quoted piece.
use Rattle.std.proofs.Common.{◌≡◌, ◌≢◌, inl, inr, ℕ, zero, suc, ◌+◌, ◌/◌, ◌%◌, ◌*◌, ◌≤◌, ◌<◌, ◌==◌, Bool, true, false}
use Rattle.std.proofs.Common.{List, [], ◌∷◌, ◌++◌, length, map, refl, ap, sym, ◌∙◌, arith, true≢false, ℤ, pos, negsuc}
use Rattle.std.specs.Prelude.{not, nat_lt, codes, decimal, if◌then◌else◌}
use Rattle.std.specs.List.{AllByRecursion, flat_map, list_all}
use Rattle.std.specs.Fmt.{signed_decimal, digits, digits_onto, digit_glyph}
use Rattle.std.proofs.lemmas.List.{append-nil, length-append}
use Rattle.std.proofs.lemmas.Bool.{and_parts}
use Rattle.std.proofs.lemmas.Bool.Decides.{nat_tests, leb_tells}
use Rattle.std.proofs.lemmas.List.Elements.{All-head, All-tail}
use Rattle.dsn_tokens.specs.Gaps.{is_blank, Lacks}
use Rattle.dsn_tokens.specs.Words.{Piece, bare, quoted, IsPiece, pieces_then, piece_text, ends_word}
use Rattle.pcb_model.specs.Sound.{IsPrintable}
use Rattle.ses_writer.specs.Words.{is_bare, is_bare_byte, spelled, decimals, fraction, degrees}

-- bytes that neither end a word nor quote nor begin a skipped line
abbrev pub ArePlain : List ℕ → Type 0
ArePlain bytes = AllByRecursion (λ b. 42 ≤ b) bytes

-- neither a blank nor a `#` stands first
abbrev pub StartsWord : List ℕ → Type 0
StartsWord [] = ⊥
StartsWord (b ∷ bytes) = (is_blank b ≡ false) × (b ≢ 35)

-- The bytes are a word with this text, as they stand.
pub record IsSpelled (text bytes : List ℕ) : Type 0 where
  pub pieces : List Piece
  pub some : 0 < length pieces
  pub each : AllByRecursion (IsPiece 34) pieces
  pub spelled_so : bytes ≡ pieces_then 34 pieces []
  pub joined : text ≡ flat_map piece_text pieces
  pub starts : StartsWord bytes

-- ---- plain bytes
-- a plain byte is no blank
pub plain_blank : (b : ℕ) → 42 ≤ b → is_blank b ≡ false
plain_blank b h = grind (arith, nat_tests)

-- nor a bracket
pub plain_inside : (b : ℕ) → 42 ≤ b → ends_word b ≡ false
plain_inside b h = grind (arith, nat_tests)

-- a byte below 42 needs quotes
low_not_bare : (b : ℕ) → b < 42 → is_bare_byte b ≡ false
low_not_bare b h = grind (arith, nat_tests)

-- so a byte that needs none is plain
bare_plain : (b : ℕ) → is_bare_byte b ≡ true → 42 ≤ b
bare_plain b h = elim (leb_tells 42 b) [
  | inl x ↦ x.1
  | inr x ↦ absurd (true≢false (sym h ∙ low_not_bare b x.1))
]

-- all of them
bares_plain : (bytes : List ℕ) → list_all is_bare_byte bytes ≡ true → ArePlain bytes
bares_plain [] h = tt
bares_plain (b ∷ bytes) h =
    let parts = and_parts (is_bare_byte b) (list_all is_bare_byte bytes) h in
    (bare_plain b parts.0, bares_plain bytes parts.1)

-- plain bytes are bare pieces
plain_pieces : (bytes : List ℕ) → ArePlain bytes → AllByRecursion (IsPiece 34) (map bare bytes)
plain_pieces [] h = tt
plain_pieces (b ∷ bytes) h = ((omega (arith, h.0), plain_inside b h.0), plain_pieces bytes h.1)

-- which are spelled as they are
plain_spelled : (bytes : List ℕ) → bytes ≡ pieces_then 34 (map bare bytes) []
plain_spelled [] = refl
plain_spelled (b ∷ bytes) = ap (λ bs. b ∷ bs) (plain_spelled bytes)

-- and read so
plain_joined : (bytes : List ℕ) → bytes ≡ flat_map piece_text (map bare bytes)
plain_joined [] = refl
plain_joined (b ∷ bytes) = ap (λ bs. b ∷ bs) (plain_joined bytes)

-- some plain bytes are a word with themselves as its text
pub plain_word : (bytes : List ℕ) → 0 < length bytes → ArePlain bytes → IsSpelled bytes bytes
plain_word [] some h = absurd (omega (arith, some))
plain_word (b ∷ bytes) some h = record {
  pieces = map bare (b ∷ bytes);
  some = omega arith;
  each = plain_pieces (b ∷ bytes) h;
  spelled_so = plain_spelled (b ∷ bytes);
  joined = plain_joined (b ∷ bytes);
  starts = (plain_blank b h.0, omega (arith, h.0));
}

-- ---- names
-- a printable name lacks the quoting byte
lacks : (name : List ℕ) → IsPrintable name → Lacks 34 name
lacks [] h = tt
lacks (b ∷ name) h = (All-head (λ (c : ℕ). c ≢ 34) b name h, lacks name (All-tail (λ (c : ℕ). c ≢ 34) b name h))

-- between quotes
quoted_word : (name : List ℕ) → IsPrintable name → IsSpelled name (codes "\"" ++ name ++ codes "\"")
quoted_word name h = record {
  pieces = quoted name ∷ [];
  some = omega arith;
  each = (lacks name h, tt);
  spelled_so = refl;
  joined = sym (append-nil name);
  starts = (refl, omega arith);
}

-- a bare name isn't empty
bare_some : (name : List ℕ) → is_bare name ≡ true → 0 < length name
bare_some [] h = absurd (true≢false (sym h))
bare_some (b ∷ name) h = omega arith

-- with quotes or without
by_quotes : (quotes : Bool) (name : List ℕ) → is_bare name ≡ quotes → IsPrintable name
    → IsSpelled name (if quotes then name else codes "\"" ++ name ++ codes "\"")
by_quotes true name e h = plain_word name (bare_some name e)
    (bares_plain name (and_parts (not (length name == 0)) (list_all is_bare_byte name) e).1)
by_quotes false name e h = quoted_word name h

-- a printed name is a word with the name as its text
pub name_word : (name : List ℕ) → IsPrintable name → IsSpelled name (spelled name)
unfolding spelled
name_word name h = by_quotes (is_bare name) name refl h

-- ---- numbers
-- a digit is plain
glyph_plain : (d : ℕ) → 42 ≤ digit_glyph false d
glyph_plain d = by (nat_lt d 10)
  where
    by : (low : Bool) → 42 ≤ (if low then 48 + d else (if false then 55 + d else 87 + d))
    by true = omega arith
    by false = omega arith

-- Some plain bytes.
pub record IsPlainWord (bytes : List ℕ) : Type 0 where
  pub some : 0 < length bytes
  pub plain : ArePlain bytes

-- they are a word with themselves as its text
pub plainly : (bytes : List ℕ) → IsPlainWord bytes → IsSpelled bytes bytes
plainly bytes w = plain_word bytes w.some w.plain

-- one of two
choose : (first : Bool) (xs ys : List ℕ) → IsPlainWord xs → IsPlainWord ys → IsPlainWord (if first then xs else ys)
choose true xs ys p q = p
choose false xs ys p q = q

-- one more in front
in_front : (b : ℕ) (bytes : List ℕ) → 42 ≤ b → ArePlain bytes → IsPlainWord (b ∷ bytes)
in_front b bytes h p = record { some = omega arith; plain = (h, p) }

-- digits before plain bytes
more_digits : (k n : ℕ) (acc : List ℕ) → IsPlainWord acc → IsPlainWord (digits_onto k 10 false n acc)
more_digits zero n acc w = w
more_digits (suc k) n acc w =
    let front = digit_glyph false (n % 10) ∷ acc in
    let v = in_front (digit_glyph false (n % 10)) acc (glyph_plain (n % 10)) w.plain in
    choose (n / 10 == 0) front (digits_onto k 10 false (n / 10) front) v (more_digits k (n / 10) front v)

-- a decimal number is a word of digits
pub decimal_plain : (n : ℕ) → IsPlainWord (decimal n)
unfolding digits
decimal_plain n =
    let front = digit_glyph false (n % 10) ∷ [] in
    let v = in_front (digit_glyph false (n % 10)) [] (glyph_plain (n % 10)) tt in
    choose (n / 10 == 0) front (digits_onto 63 10 false (n / 10) front) v (more_digits 63 (n / 10) front v)

-- so is one with its sign
pub signed_plain : (z : ℤ) → IsPlainWord (signed_decimal z)
signed_plain (pos n) = decimal_plain n
signed_plain (negsuc n) = in_front 45 (decimal (suc n)) (omega arith) (decimal_plain (suc n)).plain

-- plain bytes behind each other
plain_both : (xs ys : List ℕ) → ArePlain xs → ArePlain ys → ArePlain (xs ++ ys)
plain_both [] ys p q = q
plain_both (x ∷ xs) ys p q = (p.0, plain_both xs ys p.1 q)

-- plain or none
none_or : (none : Bool) (xs : List ℕ) → ArePlain xs → ArePlain (if none then [] else xs)
none_or true xs p = tt
none_or false xs p = p

-- the digits behind the point
decimals_plain : (microdegrees : ℕ) (places : List ℕ) → ArePlain (decimals microdegrees places)
decimals_plain m [] = tt
decimals_plain m (place ∷ places) = none_or (m % (10 * place) == 0) ((48 + m / place % 10) ∷ decimals m places)
    (omega arith, decimals_plain m places)

-- the point and what stands behind it
fraction_plain : (microdegrees : ℕ) → ArePlain (fraction microdegrees)
fraction_plain m = none_or (m % 1000000 == 0) (codes "." ++ decimals m (100000 ∷ 10000 ∷ 1000 ∷ 100 ∷ 10 ∷ 1 ∷ []))
    (omega arith, decimals_plain m (100000 ∷ 10000 ∷ 1000 ∷ 100 ∷ 10 ∷ 1 ∷ []))

-- an angle is a word
pub degrees_plain : (microdegrees : ℕ) → IsPlainWord (degrees microdegrees)
unfolding degrees
degrees_plain m =
    let whole = decimal_plain (m / 1000000) in record {
      some = omega (arith, whole.some, length-append (decimal (m / 1000000)) (fraction m));
      plain = plain_both (decimal (m / 1000000)) (fraction m) whole.plain (fraction_plain m);
    }
