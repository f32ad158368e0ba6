-- What is spelled is read, and what is read was spelled.
use Rattle.std.proofs.Common.{◌≡◌, ◌↔◌, ◌≤◌, ◌==◌, ◌||◌, ◌&&◌, ◌++◌, ◌⊎◌, inl, inr, nat_le, ◌∙◌, ap, ap₂, sym, subst, ℕ}
use Rattle.std.proofs.Common.{ℤ, pos, ◌-ℤ◌, Bool, true, false, List, [], ◌∷◌, Option, Some, None, length, arith, refl}
use Rattle.std.specs.List.{list_all}
use Rattle.std.specs.Char.{is_ascii_digit}
use Rattle.std.proofs.lemmas.Bool.{false≢true}
use Rattle.std.proofs.lemmas.List.{append-nil}
use Rattle.std.proofs.lemmas.List.Folds.{list_all-append}
use Rattle.std.proofs.lemmas.Bool.Decides.{nat_tests}
use Rattle.dsn_units.specs.declared.number.Decimal.{Decimal}
use Rattle.dsn_units.specs.Length.{signed}
use Rattle.dsn_units.specs.Spelling.{Sign, bare, plus, minus, sign_text, is_minus, Exponent, Spelling, fraction_text}
use Rattle.dsn_units.specs.Spelling.{exponent_text, text_of, fraction_digits, AreDigits, IsExponent, IsSpelling}
use Rattle.dsn_units.specs.Spelling.{number_of, exponent_value, decimal_of_spelling, Spells}
use Rattle.dsn_units.specs.Reading.{sign_of, digits_of, fraction_of, small_number, signed_number, exponent_of}
use Rattle.dsn_units.specs.Reading.{with_exponent, with_fraction, with_digits, with_sign, decimal_of}

-- whether a text begins with a byte that passes
starts : (ℕ → Bool) → List ℕ → Bool
starts p [] = false
starts p (b ∷ bs) = p b

abbrev is_sign : ℕ → Bool
is_sign b = b == 45 || b == 43

abbrev is_letter : ℕ → Bool
is_letter b = b == 101 || b == 69

first_of_two : (a b : Bool) → (a && b) ≡ true → a ≡ true
first_of_two true b e = refl
first_of_two false b e = absurd (false≢true e)

second_of_two : (a b : Bool) → (a && b) ≡ true → b ≡ true
second_of_two true b e = e
second_of_two false b e = absurd (false≢true e)

digit_no_sign : (b : ℕ) → is_ascii_digit b ≡ true → is_sign b ≡ false
digit_no_sign b e = grind (arith, nat_tests)

letter_passes : (b : ℕ) → (b ≡ 101) ⊎ (b ≡ 69) → is_letter b ≡ true
letter_passes b (inl e) = rw e
letter_passes b (inr e) = rw e

letter_is : (b : ℕ) → is_letter b ≡ true → (b ≡ 101) ⊎ (b ≡ 69)
letter_is b e = grind (arith, nat_tests)

count_passes : (n m : ℕ) → 1 ≤ n → n ≤ m → (nat_le 1 n && nat_le n m) ≡ true
count_passes n m h k = grind (arith, nat_tests)

count_is : (n m : ℕ) → (nat_le 1 n && nat_le n m) ≡ true → (1 ≤ n) × (n ≤ m)
count_is n m e = (grind (arith, nat_tests), grind (arith, nat_tests))

-- each part is read back where the next part doesn't go on with it
sign_read : (s : Sign) (rest : List ℕ) → starts is_sign rest ≡ false
    → sign_of (sign_text s ++ rest) ≡ (is_minus s, rest)
unfolding starts
sign_read bare [] e = refl
sign_read bare (b ∷ bs) e = grind (arith, nat_tests)
sign_read plus rest e = refl
sign_read minus rest e = refl

more_digits : (d : ℕ) (bs : List ℕ) (w : List ℕ × List ℕ) → is_ascii_digit d ≡ true → digits_of bs ≡ w
    → digits_of (d ∷ bs) ≡ (d ∷ w.0, w.1)
more_digits d bs w e f = rw (e, f)

digits_read : (ds rest : List ℕ) → list_all is_ascii_digit ds ≡ true → starts is_ascii_digit rest ≡ false
    → digits_of (ds ++ rest) ≡ (ds, rest)
unfolding starts
digits_read [] [] a e = refl
digits_read [] (b ∷ bs) a e = rw e
digits_read (d ∷ ds) rest a e =
    more_digits d (ds ++ rest) (ds, rest) (first_of_two (is_ascii_digit d) (list_all is_ascii_digit ds) a)
    (digits_read ds rest (second_of_two (is_ascii_digit d) (list_all is_ascii_digit ds) a) e)

fraction_read : (f : Option (List ℕ)) (rest : List ℕ) → list_all is_ascii_digit (fraction_digits f) ≡ true
    → starts is_ascii_digit rest ≡ false → starts (λ b. b == 46) rest ≡ false → fraction_of (fraction_text f ++ rest)
    ≡ (fraction_digits f, rest)
unfolding starts
fraction_read None [] a e g = refl
fraction_read None (b ∷ bs) a e g = rw g
fraction_read (Some ds) rest a e g = digits_read ds rest a e

no_sign : (ds : List ℕ) → list_all is_ascii_digit ds ≡ true → 1 ≤ length ds → starts is_sign ds ≡ false
unfolding starts
no_sign [] a h = refl
no_sign (d ∷ ds) a h = digit_no_sign d (first_of_two (is_ascii_digit d) (list_all is_ascii_digit ds) a)

small_read : (negative : Bool) (ds : List ℕ) → AreDigits 2 ds
    → small_number negative (ds, []) ≡ Some (signed negative (number_of ds))
small_read negative ds a = rw (count_passes (length ds) 2 a.some a.few)

signed_read : (s : Sign) (ds : List ℕ) → AreDigits 2 ds → signed_number (sign_of (sign_text s ++ ds))
    ≡ Some (signed (is_minus s) (number_of ds))
unfolding starts
signed_read s ds a =
    let d : digits_of ds ≡ (ds, []) =
    subst (λ l. digits_of l ≡ (ds, [])) (append-nil ds) (digits_read ds [] a.digit refl) in
    ap signed_number (sign_read s ds (no_sign ds a.digit a.some)) ∙ ap (small_number (is_minus s)) d
    ∙ small_read (is_minus s) ds a

exponent_read : (x : Option Exponent) → IsExponent x → exponent_of (exponent_text x) ≡ Some (exponent_value x)
exponent_read None u = refl
exponent_read (Some e) u = rw (letter_passes e.letter u.0) (signed_read e.sign e.digits u.1)

letter_no_digit : (b : ℕ) → (b ≡ 101) ⊎ (b ≡ 69) → (is_ascii_digit b ≡ false) × ((b == 46) ≡ false)
letter_no_digit b (inl e) = subst (λ n. (is_ascii_digit n ≡ false) × ((n == 46) ≡ false)) (sym e) (refl, refl)
letter_no_digit b (inr e) = subst (λ n. (is_ascii_digit n ≡ false) × ((n == 46) ≡ false)) (sym e) (refl, refl)

exponent_apart : (x : Option Exponent) → IsExponent x → (starts is_ascii_digit (exponent_text x) ≡ false)
    × (starts (λ b. b == 46) (exponent_text x) ≡ false)
unfolding starts
exponent_apart None u = (refl, refl)
exponent_apart (Some e) u = letter_no_digit e.letter u.0

fraction_apart : (f : Option (List ℕ)) (rest : List ℕ) → starts is_ascii_digit rest ≡ false
    → starts is_ascii_digit (fraction_text f ++ rest) ≡ false
unfolding starts
fraction_apart None rest e = e
fraction_apart (Some ds) rest e = refl

whole_apart : (whole : List ℕ) (f : Option (List ℕ)) (rest : List ℕ) → list_all is_ascii_digit whole ≡ true
    → 1 ≤ length (whole ++ fraction_digits f) → starts is_sign (whole ++ (fraction_text f ++ rest)) ≡ false
unfolding starts
whole_apart [] None rest a h = absurd (omega arith)
whole_apart [] (Some ds) rest a h = refl
whole_apart (d ∷ ds) f rest a h = digit_no_sign d (first_of_two (is_ascii_digit d) (list_all is_ascii_digit ds) a)

exponent_made : (negative : Bool) (whole fraction : List ℕ) (e : ℤ) → AreDigits 18 (whole ++ fraction)
    → with_exponent negative whole fraction (Some e)
    ≡ Some (record {
      negative = negative;
      digits = number_of (whole ++ fraction);
      exponent = e -ℤ pos (length fraction);
    })
exponent_made negative whole fraction e a = rw (count_passes (length (whole ++ fraction)) 18 a.some a.few)

pub spelling_read : (s : Spelling) → IsSpelling s → decimal_of (text_of s) ≡ Some (decimal_of_spelling s)
spelling_read s is =
    let fd = fraction_digits s.fraction in
    let both : (list_all is_ascii_digit s.whole && list_all is_ascii_digit fd) ≡ true =
    sym (list_all-append is_ascii_digit s.whole fd) ∙ is.digits.digit in
    let w : list_all is_ascii_digit s.whole ≡ true =
    first_of_two (list_all is_ascii_digit s.whole) (list_all is_ascii_digit fd) both in
    let f : list_all is_ascii_digit fd ≡ true =
    second_of_two (list_all is_ascii_digit s.whole) (list_all is_ascii_digit fd) both in
    let apart = exponent_apart s.exponent is.exponent in
    ap with_sign
    (sign_read s.sign (s.whole ++ (fraction_text s.fraction ++ exponent_text s.exponent))
    (whole_apart s.whole s.fraction (exponent_text s.exponent) w is.digits.some))
    ∙ ap (with_digits (is_minus s.sign))
    (digits_read s.whole (fraction_text s.fraction ++ exponent_text s.exponent) w
    (fraction_apart s.fraction (exponent_text s.exponent) apart.0))
    ∙ ap (with_fraction (is_minus s.sign) s.whole)
    (fraction_read s.fraction (exponent_text s.exponent) f apart.0 apart.1)
    ∙ ap (with_exponent (is_minus s.sign) s.whole fd) (exponent_read s.exponent is.exponent)
    ∙ exponent_made (is_minus s.sign) s.whole fd (exponent_value s.exponent) is.digits

-- each part that is read was spelled
record SignSpelled (text : List ℕ) : Type 0 where
  sign : Sign
  spelled : text ≡ sign_text sign ++ (sign_of text).1
  value : (sign_of text).0 ≡ is_minus sign

byte_is : (b n : ℕ) → (b == n) ≡ true → b ≡ n
byte_is b n e = grind (arith, nat_tests)

no_two : (b : ℕ) → (b == 45) ≡ false → (b == 43) ≡ false → is_sign b ≡ false
no_two b e f = rw (e, f)

bare_read : (b : ℕ) (bs : List ℕ) → is_sign b ≡ false → sign_of (b ∷ bs) ≡ (false, b ∷ bs)
unfolding starts
bare_read b bs e = sign_read bare (b ∷ bs) e

sign_spelled : (text : List ℕ) → SignSpelled text
sign_spelled [] = record { sign = bare; spelled = refl; value = refl }
sign_spelled (b ∷ bs) = go (b == 45) (b == 43) refl refl
  where
    go : (t u : Bool) → (b == 45) ≡ t → (b == 43) ≡ u → SignSpelled (b ∷ bs)
    go true u e f =
        subst (λ n. SignSpelled (n ∷ bs)) (sym (byte_is b 45 e)) (record { sign = minus; spelled = refl; value = refl })
    go false true e f =
        subst (λ n. SignSpelled (n ∷ bs)) (sym (byte_is b 43 f)) (record { sign = plus; spelled = refl; value = refl })
    go false false e f = let r = bare_read b bs (no_two b e f) in
        record {
          sign = bare;
          spelled = ap (λ (w : Bool × List ℕ). w.1) (sym r);
          value = ap (λ (w : Bool × List ℕ). w.0) r;
        }

record DigitsSpelled (text : List ℕ) (w : List ℕ × List ℕ) : Type 0 where
  spelled : text ≡ w.0 ++ w.1
  digit : list_all is_ascii_digit w.0 ≡ true

digits_spelled : (text : List ℕ) → DigitsSpelled text (digits_of text)
digits_spelled [] = record { spelled = refl; digit = refl }
digits_spelled (b ∷ bs) = go (is_ascii_digit b) refl (digits_spelled bs)
  where
    go : (t : Bool) → is_ascii_digit b ≡ t → DigitsSpelled bs (digits_of bs)
        → DigitsSpelled (b ∷ bs) (digits_of (b ∷ bs))
    go true e d = rw e (record { spelled = ap (λ l. b ∷ l) d.spelled; digit = rw e d.digit })
    go false e d = rw e (record { spelled = refl; digit = refl })

record FractionSpelled (text : List ℕ) (w : List ℕ × List ℕ) : Type 0 where
  fraction : Option (List ℕ)
  spelled : text ≡ fraction_text fraction ++ w.1
  value : w.0 ≡ fraction_digits fraction
  digit : list_all is_ascii_digit w.0 ≡ true

fraction_spelled : (text : List ℕ) → FractionSpelled text (fraction_of text)
fraction_spelled [] = record { fraction = None; spelled = refl; value = refl; digit = refl }
fraction_spelled (b ∷ bs) = go (b == 46) refl (digits_spelled bs)
  where
    go : (t : Bool) → (b == 46) ≡ t → DigitsSpelled bs (digits_of bs) → FractionSpelled (b ∷ bs) (fraction_of (b ∷ bs))
    go true e d =
        subst (λ n. FractionSpelled (n ∷ bs) (fraction_of (n ∷ bs))) (sym (byte_is b 46 e))
        (record {
          fraction = Some (digits_of bs).0;
          spelled = ap (λ l. 46 ∷ l) d.spelled;
          value = refl;
          digit = d.digit;
        })
    go false e d = rw e (record { fraction = None; spelled = refl; value = refl; digit = refl })

record NumberSpelled (negative : Bool) (w : List ℕ × List ℕ) (e : ℤ) : Type 0 where
  end : w.1 ≡ []
  some : 1 ≤ length w.0
  few : length w.0 ≤ 2
  value : e ≡ signed negative (number_of w.0)

number_spelled : (negative : Bool) (w : List ℕ × List ℕ) (e : ℤ) → small_number negative w ≡ Some e
    → NumberSpelled negative w e
number_spelled negative (ds, b ∷ bs) e h = cc
number_spelled negative (ds, []) e h = go (nat_le 1 (length ds) && nat_le (length ds) 2) refl
  where
    go : (t : Bool) → (nat_le 1 (length ds) && nat_le (length ds) 2) ≡ t → NumberSpelled negative (ds, []) e
    go true f = let n = count_is (length ds) 2 f in let g = rw f at h in
        record { end = refl; some = n.0; few = n.1; value = cc }
    go false f = let g = rw f at h in cc

record ExponentSpelled (text : List ℕ) (e : ℤ) : Type 0 where
  exponent : Option Exponent
  is : IsExponent exponent
  spelled : text ≡ exponent_text exponent
  value : e ≡ exponent_value exponent

exponent_spelled : (text : List ℕ) (e : ℤ) → exponent_of text ≡ Some e → ExponentSpelled text e
exponent_spelled [] e h = record { exponent = None; is = tt; spelled = refl; value = cc }
exponent_spelled (b ∷ bs) e h = go (is_letter b) refl
  where
    go : (t : Bool) → is_letter b ≡ t → ExponentSpelled (b ∷ bs) e
    go false f = let g = rw f at h in cc
    go true f =
        let s = sign_spelled bs in
        let d = digits_spelled (sign_of bs).1 in
        let n = number_spelled (sign_of bs).0 (digits_of (sign_of bs).1) e (rw f at h) in
        let x : Exponent = record { letter = b; sign = s.sign; digits = (digits_of (sign_of bs).1).0 } in
        record {
          exponent = Some x;
          is = (letter_is b f, record { digit = d.digit; some = n.some; few = n.few });
          spelled = ap (λ l. b ∷ l)
              (s.spelled ∙ ap (λ l. sign_text s.sign ++ l)
              (d.spelled ∙ ap (λ l. (digits_of (sign_of bs).1).0 ++ l) n.end ∙ append-nil _));
          value = n.value ∙ ap (λ m. signed m (number_of (digits_of (sign_of bs).1).0)) s.value;
        }

record Made (negative : Bool) (whole fraction : List ℕ) (o : Option ℤ) (d : Decimal) : Type 0 where
  e : ℤ
  exponent : o ≡ Some e
  some : 1 ≤ length (whole ++ fraction)
  few : length (whole ++ fraction) ≤ 18
  value : d ≡ record {
    negative = negative;
    digits = number_of (whole ++ fraction);
    exponent = e -ℤ pos (length fraction);
  }

made : (negative : Bool) (whole fraction : List ℕ) (o : Option ℤ) (d : Decimal)
    → with_exponent negative whole fraction o ≡ Some d → Made negative whole fraction o d
made negative whole fraction None d h = cc
made negative whole fraction (Some e) d h =
    go (nat_le 1 (length (whole ++ fraction)) && nat_le (length (whole ++ fraction)) 18) refl
  where
    go : (t : Bool) → (nat_le 1 (length (whole ++ fraction)) && nat_le (length (whole ++ fraction)) 18) ≡ t
        → Made negative whole fraction (Some e) d
    go true f = let n = count_is (length (whole ++ fraction)) 18 f in let g = rw f at h in
        record { e = e; exponent = refl; some = n.0; few = n.1; value = cc }
    go false f = let g = rw f at h in cc

abbrev decimal_from : Bool → List ℕ → List ℕ → ℤ → Decimal
decimal_from negative whole fraction e =
    record { negative = negative; digits = number_of (whole ++ fraction); exponent = e -ℤ pos (length fraction) }

decimal_spelled : (text : List ℕ) (d : Decimal) → decimal_of text ≡ Some d → Spells text d
decimal_spelled text d h =
    let s = sign_spelled text in
    let digits = digits_of (sign_of text).1 in
    let w = digits_spelled (sign_of text).1 in
    let f = fraction_spelled digits.1 in
    let behind = fraction_of digits.1 in
    let m = made (sign_of text).0 digits.0 behind.0 (exponent_of behind.1) d h in
    let x = exponent_spelled behind.1 m.e m.exponent in
    let all : list_all is_ascii_digit (digits.0 ++ behind.0) ≡ true = list_all-append is_ascii_digit digits.0 behind.0
    ∙ ap₂ (λ a b. a && b) w.digit f.digit in
    let made_digits : AreDigits 18 (digits.0 ++ behind.0) = record { digit = all; some = m.some; few = m.few } in
    record {
      spelling = record { sign = s.sign; whole = digits.0; fraction = f.fraction; exponent = x.exponent };
      is = record { digits = subst (λ l. AreDigits 18 (digits.0 ++ l)) f.value made_digits; exponent = x.is };
      spelled = s.spelled
          ∙ ap (λ l. sign_text s.sign ++ l)
          (w.spelled ∙ ap (λ l. digits.0 ++ l) (f.spelled ∙ ap (λ l. fraction_text f.fraction ++ l) x.spelled));
      value = m.value ∙ ap (λ n. decimal_from n digits.0 behind.0 m.e) s.value
          ∙ ap (λ l. decimal_from (is_minus s.sign) digits.0 l m.e) f.value
          ∙ ap (decimal_from (is_minus s.sign) digits.0 (fraction_digits f.fraction)) x.value;
    }

-- a text spells what is read, and that alone
pub spelled_as_read : (text : List ℕ) (d : Decimal) → (decimal_of text ≡ Some d) ↔ Spells text d
spelled_as_read text d =
    (decimal_spelled text d, λ s. ap decimal_of s.spelled ∙ spelling_read s.spelling s.is ∙ ap Some (sym s.value))
