-- The word at the front of bytes: it is a front of them, and ASCII.
use Rattle.std.proofs.Common.{◌≡◌, ◌∙◌, ℕ, suc, ◌+◌, ◌<◌, min, Bool, true, false, if◌then◌else◌, cond, List, [], ◌∷◌}
use Rattle.std.proofs.Common.{length, take, refl, sym, ap, subst, arith, ⊎_elim, IsAscii, IsUtf8, take_all, take-take}
use Rattle.std.proofs.lemmas.Bool.{cases_lt}
use Rattle.std.proofs.lemmas.List.Folds.{length-prefix_len}
use Rattle.std.proofs.lemmas.Str.{IsUtf8-from_ascii, IsAscii-take}
use Rattle.std.proofs.lemmas.Str.Ascii.{IsAscii-nil, IsAscii-cons}
use Rattle.std.specs.List.{prefix_len}
use Rattle.fault_notes.specs.Places.{is_bracket, is_word_byte, front_word}

-- what holds of both holds of either
either : (b : Bool) (x y l : List ℕ) → take (length x) l ≡ x → take (length y) l ≡ y
    → take (length (if b then x else y)) l ≡ (if b then x else y)
either true x y l first second = first
either false x y l first second = second

front_first : (bytes : List ℕ) → take (length (front_word bytes)) bytes ≡ front_word bytes
front_first [] = refl
front_first (c ∷ rest) =
    let run = take (prefix_len is_word_byte rest) rest in
    either (is_bracket c) (c ∷ run) (take (prefix_len is_word_byte (c ∷ rest)) (c ∷ rest)) (c ∷ rest)
    (ap (λ (n : ℕ). c ∷ take n rest) (length-prefix_len is_word_byte rest))
    (ap (λ (n : ℕ). take n (c ∷ rest)) (length-prefix_len is_word_byte (c ∷ rest)))

-- the first 40 of them at most
pub front_taken : (bytes : List ℕ) (count : ℕ) → count ≡ min (length (front_word bytes)) 40
    → take count bytes ≡ take 40 (front_word bytes)
front_taken bytes count is =
    let all = front_first bytes in
    let size = length (front_word bytes) in
    ⊎_elim (λ less. let whole : count ≡ size = omega (arith, is) in
    ap (λ (n : ℕ). take n bytes) whole ∙ all ∙ sym (take_all 40 (front_word bytes) (omega (arith, less))))
    (λ more. let most : count ≡ 40 = omega (arith, is) in
    ap (λ (n : ℕ). take n bytes) most ∙ sym (take-take 40 size bytes more) ∙ ap (λ (l : List ℕ). take 40 l) all)
    (cases_lt size 40)

-- one byte more of a run
run_more : (b : Bool) (x n : ℕ) (xs : List ℕ) → (b ≡ true → x < 128) → IsAscii (take n xs)
    → IsAscii (take (cond b (1 + n) 0) (x ∷ xs))
run_more true x n xs small rest =
    let on : 1 + n ≡ suc n = omega arith in
    subst (λ (k : ℕ). IsAscii (take k (x ∷ xs))) (sym on) (IsAscii-cons x (take n xs) (small refl) rest)
run_more false x n xs small rest = IsAscii-nil

byte_small : (c : ℕ) → is_word_byte c ≡ true → c < 128
byte_small c is = grind (arith, is)

run_ascii : (bytes : List ℕ) → IsAscii (take (prefix_len is_word_byte bytes) bytes)
run_ascii [] = IsAscii-nil
run_ascii (c ∷ rest) =
    run_more (is_word_byte c) c (prefix_len is_word_byte rest) rest (byte_small c) (run_ascii rest)

bracket_small : (c : ℕ) → is_bracket c ≡ true → c < 128
bracket_small c is = grind (arith, is)

one_ascii : (b : Bool) (x y : List ℕ) → (b ≡ true → IsAscii x) → IsAscii y → IsAscii (if b then x else y)
one_ascii true x y first second = first refl
one_ascii false x y first second = second

front_ascii : (bytes : List ℕ) → IsAscii (front_word bytes)
front_ascii [] = IsAscii-nil
front_ascii (c ∷ rest) =
    let run = take (prefix_len is_word_byte rest) rest in
    one_ascii (is_bracket c) (c ∷ run) (take (prefix_len is_word_byte (c ∷ rest)) (c ∷ rest))
    (λ is. IsAscii-cons c run (bracket_small c is) (run_ascii rest)) (run_ascii (c ∷ rest))

-- so it is text
pub front_text : (bytes : List ℕ) (count : ℕ) → count ≡ min (length (front_word bytes)) 40 → IsUtf8 (take count bytes)
front_text bytes count is =
    subst IsUtf8 (sym (front_taken bytes count is))
    (IsUtf8-from_ascii (take 40 (front_word bytes)) (IsAscii-take (front_word bytes) 40 (front_ascii bytes)))
