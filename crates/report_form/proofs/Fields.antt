-- Words, numbers and lines of them at the front of a text.
use Rattle.std.proofs.Common.{◌≡◌, ℕ, zero, suc, ◌+◌, ◌<◌, ◌≤◌, ◌==◌, ◌&&◌, ◌||◌, not, Bool, true, false}
use Rattle.std.proofs.Common.{List, [], ◌∷◌, ◌++◌, length, take, drop, get_or, refl, sym, ap, ◌∙◌, subst, arith, nat_eq}
use Rattle.std.specs.List.{list_all}
use Rattle.std.specs.Char.{is_ascii_digit}
use Rattle.std.proofs.lemmas.Bool.{and_parts, and_from, both_ways}
use Rattle.std.proofs.lemmas.List.{append_cancel_left, take-append-drop, length-take-le, get_or-take}
use Rattle.told_words.specs.Stops.{Stops}
use Rattle.told_words.proofs.Bytes.{cut}
use Rattle.report_form.specs.Form.{IsNumber, line}
use Rattle.report_form.specs.inner.Fields.{HasFront, HasField, HasOne, HasTwo, HasThree, HasFour, IsStop}
use Rattle.report_form.proofs.Peels.{digits, number_cut, ended_is}

-- ---- bytes that pass a test
-- the byte in a place ends them
stop_at : (test : ℕ → Bool) (xs : List ℕ) (i : ℕ) → i < length xs → test (get_or xs i 0) ≡ false
    → Stops test (drop i xs)
stop_at test [] i less h = absurd (omega arith)
stop_at test (x ∷ xs) zero less h = h
stop_at test (x ∷ xs) (suc i) less h = stop_at test xs i (omega arith) h

-- or the end
stop_end : (test : ℕ → Bool) (xs : List ℕ) → Stops test (drop (length xs) xs)
stop_end test [] = tt
stop_end test (x ∷ xs) = stop_end test xs

-- one more of them
pub front_more : (test : ℕ → Bool) (xs : List ℕ) (i : ℕ) → list_all test (take i xs) ≡ true → i < length xs
    → test (get_or xs i 0) ≡ true → list_all test (take (i + 1) xs) ≡ true
front_more test xs i all less h =
    let e : i + 1 ≡ suc i = omega arith in
    subst (λ (k : ℕ). list_all test (take k xs) ≡ true) (sym e) (more xs i all less h)
  where
    more : (xs : List ℕ) (i : ℕ) → list_all test (take i xs) ≡ true → i < length xs → test (get_or xs i 0) ≡ true
        → list_all test (take (suc i) xs) ≡ true
    more [] i all less h = absurd (omega arith)
    more (x ∷ xs) zero all less h = and_from (test x) true h refl
    more (x ∷ xs) (suc i) all less h =
        let both = and_parts (test x) (list_all test (take i xs)) all in
        and_from (test x) (list_all test (take (suc i) xs)) both.0 (more xs i both.1 (omega arith) h)

pub front_here : (test : ℕ → Bool) (xs : List ℕ) (i : ℕ) → list_all test (take i xs) ≡ true → i < length xs
    → test (get_or xs i 0) ≡ false → HasFront test i xs
front_here test xs i all less h = record { within = omega (arith, less); all = all; stops = stop_at test xs i less h }

pub front_all : (test : ℕ → Bool) (xs : List ℕ) (i : ℕ) → list_all test (take i xs) ≡ true → i ≡ length xs
    → HasFront test i xs
front_all test xs i all e = record {
  within = omega (arith, e);
  all = all;
  stops = subst (λ (k : ℕ). Stops test (drop k xs)) (sym e) (stop_end test xs);
}

-- ---- numbers
-- a front of digits, and any number before a stop, are one
pub front_number : (text w r : List ℕ) (count : ℕ) → HasFront is_ascii_digit count text → HasField [] w r text
    → (take count text ≡ w) × (drop count text ≡ r)
front_number text w r count f h =
    cut is_ascii_digit (take count text) w (drop count text) r f.all (digits w h.number) f.stops h.stops
    (take-append-drop count text ∙ h.is)

-- no digit is none
pub number_empty : (text w r : List ℕ) (count : ℕ) → HasFront is_ascii_digit count text → count ≡ 0
    → HasField [] w r text → ⊥
number_empty text w r count f e h =
    empty w h.number (sym (front_number text w r count f h).0 ∙ ap (λ (k : ℕ). take k text) e)
  where
    empty : (w : List ℕ) → IsNumber w → w ≡ [] → ⊥
    empty [] n e = cc
    empty (c ∷ cs) n e = cc

-- nor are several with a leading 0
pub number_zero : (text w r : List ℕ) (count : ℕ) → HasFront is_ascii_digit count text → 1 < count
    → get_or text 0 0 ≡ 48 → HasField [] w r text → ⊥
number_zero text w r count f some leading h =
    let same = (front_number text w r count f h).0 in
    let size : length w ≡ count = ap length (sym same) ∙ length-take-le count text f.within in
    leads w h.number (omega (arith, size, some)) (ap (λ (x : List ℕ). get_or x 0 0) (sym same)
    ∙ get_or-take count text 0 0 (omega (arith, some)) ∙ leading)
  where
    clash : (n c : ℕ) → 0 < n → c ≡ 48 → (n == 0 || not (c == 48)) ≡ true → ⊥
    clash n c some e h = grind (arith, some, e, h)

    leads : (w : List ℕ) → IsNumber w → 1 < length w → get_or w 0 0 ≡ 48 → ⊥
    leads [] n some e = absurd (omega (arith, some))
    leads (c ∷ cs) n some e =
        clash (length cs) c (omega (arith, some)) e
        (and_parts (list_all is_ascii_digit (c ∷ cs)) (length cs == 0 || not (c == 48)) n).1

-- a front of some bytes
pub no_front : (test : ℕ → Bool) (n : ℕ) (xs : List ℕ) → HasFront test n xs → 0 < n → Stops test xs → ⊥
no_front test zero xs f some h = omega (arith, some)
no_front test (suc n) [] f some h = omega (arith, f.within)
no_front test (suc n) (x ∷ xs) f some h = both_ways (test x) h (and_parts (test x) (list_all test (take n xs)) f.all).0

pub front_stops : (test : ℕ → Bool) (n : ℕ) (xs : List ℕ) → HasFront test n xs → n ≤ 0 → Stops test xs
front_stops test n xs f none =
    let e : n ≡ 0 = omega (arith, none) in subst (λ (k : ℕ). Stops test (drop k xs)) e f.stops

-- all bytes pass exactly where they are as many as the text has
pub front_whole : (test : ℕ → Bool) (n : ℕ) (xs : List ℕ) → HasFront test n xs
    → nat_eq n (length xs) ≡ list_all test xs
front_whole test n xs f = by n xs f.within f.all f.stops
  where
    by : (n : ℕ) (xs : List ℕ) → n ≤ length xs → list_all test (take n xs) ≡ true → Stops test (drop n xs)
        → nat_eq n (length xs) ≡ list_all test xs
    by n [] less all stop = grind (arith, less)
    by zero (x ∷ xs) less all stop = rw stop (grind arith)
    by (suc n) (x ∷ xs) less all stop =
        let both = and_parts (test x) (list_all test (take n xs)) all in
        let rest = by n xs (omega (arith, less)) both.1 stop in
        let shift : nat_eq (suc n) (length (x ∷ xs)) ≡ nat_eq n (length xs) = grind arith in
        shift ∙ rest ∙ sym (ap (λ (b : Bool). b && list_all test xs) both.0)

-- ---- words before
pub field_behind : (word w r behind text : List ℕ) → text ≡ word ++ behind → HasField [] w r behind
    → HasField word w r text
field_behind word w r behind text e h =
    record { number = h.number; stops = h.stops; is = e ∙ ap (λ (x : List ℕ). word ++ x) h.is }

pub field_ahead : (word w r behind text : List ℕ) → text ≡ word ++ behind → HasField word w r text
    → HasField [] w r behind
field_ahead word w r behind text e h = record {
  number = h.number;
  stops = h.stops;
  is = append_cancel_left word behind (w ++ r) (sym e ∙ h.is);
}

-- a word and a number are one
pub field_one : (word a x b y text : List ℕ) → HasField word a x text → HasField word b y text → (a ≡ b) × (x ≡ y)
field_one word a x b y text f g =
    number_cut a b x y f.number g.number f.stops g.stops
    (append_cancel_left word (a ++ x) (b ++ y) (sym f.is ∙ g.is))

-- ---- lines of one number
pub one_field : (word a r text : List ℕ) → HasOne word a r text → HasField word a (10 ∷ r) text
one_field word a r text h = record { number = h.number; stops = refl; is = h.is }

pub one_from : (word a behind r text : List ℕ) → HasField word a behind text → behind ≡ 10 ∷ r → HasOne word a r text
one_from word a behind r text f e =
    record { number = f.number; is = f.is ∙ ap (λ (x : List ℕ). word ++ (a ++ x)) e }

pub one_ahead : (word a behind b r text : List ℕ) → HasField word a behind text → HasOne word b r text
    → behind ≡ 10 ∷ r
one_ahead word a behind b r text f h = (field_one word a behind b (10 ∷ r) text f (one_field word b r text h)).1

-- as it is printed
pub one_line : (word a r text : List ℕ) → HasOne word a r text → text ≡ line (word ++ a) ++ r
one_line word a r text h = h.is ∙ sym (ended_is word a r)

pub one_of_line : (word a r text : List ℕ) → IsNumber a → text ≡ line (word ++ a) ++ r → HasOne word a r text
one_of_line word a r text number e = record { number = number; is = e ∙ ended_is word a r }

-- ---- of two
pub two_field : (v w a b r text : List ℕ) → IsStop w → HasTwo v w a b r text
    → HasField v a (w ++ (b ++ (10 ∷ r))) text
two_field v w a b r text stop h = record { number = h.first; stops = stop (b ++ (10 ∷ r)); is = h.is }

pub two_from : (v w a behind b r text : List ℕ) → HasField v a behind text → HasOne w b r behind
    → HasTwo v w a b r text
two_from v w a behind b r text f g = record {
  first = f.number;
  second = g.number;
  is = f.is ∙ ap (λ (x : List ℕ). v ++ (a ++ x)) g.is;
}

pub two_ahead : (v w a behind c b r text : List ℕ) → IsStop w → HasField v a behind text → HasTwo v w c b r text
    → HasOne w b r behind
two_ahead v w a behind c b r text stop f h = record {
  number = h.second;
  is = (field_one v a behind c (w ++ (b ++ (10 ∷ r))) text f (two_field v w c b r text stop h)).1;
}

-- ---- of three
pub three_field : (u v w a b c r text : List ℕ) → IsStop v → HasThree u v w a b c r text
    → HasField u a (v ++ (b ++ (w ++ (c ++ (10 ∷ r))))) text
three_field u v w a b c r text stop h =
    record { number = h.first; stops = stop (b ++ (w ++ (c ++ (10 ∷ r)))); is = h.is }

pub three_from : (u v w a behind b c r text : List ℕ) → HasField u a behind text → HasTwo v w b c r behind
    → HasThree u v w a b c r text
three_from u v w a behind b c r text f g = record {
  first = f.number;
  second = g.first;
  third = g.second;
  is = f.is ∙ ap (λ (x : List ℕ). u ++ (a ++ x)) g.is;
}

pub three_ahead : (u v w a behind e b c r text : List ℕ) → IsStop v → HasField u a behind text
    → HasThree u v w e b c r text → HasTwo v w b c r behind
three_ahead u v w a behind e b c r text stop f h = record {
  first = h.second;
  second = h.third;
  is = (field_one u a behind e (v ++ (b ++ (w ++ (c ++ (10 ∷ r))))) text f (three_field u v w e b c r text stop h)).1;
}

-- ---- of four
pub four_from : (word a behind b c e r text : List ℕ) → HasField word a behind text
    → HasThree (32 ∷ []) (32 ∷ []) (32 ∷ []) b c e r behind → HasFour word a b c e r text
four_from word a behind b c e r text f g = record {
  first = f.number;
  second = g.first;
  third = g.second;
  fourth = g.third;
  is = f.is ∙ ap (λ (x : List ℕ). word ++ (a ++ x)) g.is;
}

pub four_ahead : (word a behind d b c e r text : List ℕ) → HasField word a behind text → HasFour word d b c e r text
    → HasThree (32 ∷ []) (32 ∷ []) (32 ∷ []) b c e r behind
four_ahead word a behind d b c e r text f h = record {
  first = h.second;
  second = h.third;
  third = h.fourth;
  is = (field_one word a behind d (32 ∷ (b ++ (32 ∷ (c ++ (32 ∷ (e ++ (10 ∷ r))))))) text f
      (record { number = h.first; stops = refl; is = h.is })).1;
}
