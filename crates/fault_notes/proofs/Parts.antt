-- Parts of a note, one after another.
use Rattle.std.proofs.Common.{◌≡◌, ◌∙◌, ℕ, ◌+◌, ◌<◌, ◌≤◌, List, [], ◌∷◌, ◌++◌, refl, sym, ap, length, get_or, drop}
use Rattle.std.proofs.Common.{flat_map, append_assoc, append-nil, Result, Ok, Err}
use Rattle.std.specs.Prelude.{OnOk, is_ok, if◌then◌else◌}
use Rattle.std.proofs.lemmas.List.{at_drop_all, at_drop_more}
use Rattle.fault_notes.specs.declared.notes.Part.{Part}
use Rattle.fault_notes.specs.inner.Parts.{part_word, part_words, words_before}

-- what was pushed stands at the end
pub pushed : {T E : Type 0} (r : Result T E) (old new text : List ℕ)
    → new ≡ (if is_ok r then old ++ text else old) → OnOk r (new ≡ old ++ text)
pushed (Ok x) old new text is = is
pushed (Err e) old new text is = tt

-- one more part of what is left
pub parts_on : (parts : List Part) (i : ℕ) (part : Part) (old new all : List ℕ) → i < length parts
    → part ≡ get_or parts i part → new ≡ old ++ part_word part → old ++ flat_map part_word (drop i parts) ≡ all
    → new ++ flat_map part_word (drop (i + 1) parts) ≡ all
parts_on parts i part old new all lt is put so_far =
    let rest = flat_map part_word (drop (i + 1) parts) in
    let front : flat_map part_word (drop i parts) ≡ part_word part ++ rest =
    at_drop_more (flat_map part_word) parts i part lt
    ∙ ap (λ (p : Part). flat_map part_word (p ∷ drop (i + 1) parts)) (sym is) in
    ap (λ (l : List ℕ). l ++ rest) put ∙ append_assoc old (part_word part) rest
    ∙ ap (λ (l : List ℕ). old ++ l) (sym front) ∙ so_far

-- with no part left all are put
pub parts_end : (parts : List Part) (i : ℕ) (out all : List ℕ) → length parts ≤ i
    → out ++ flat_map part_word (drop i parts) ≡ all → out ≡ all
parts_end parts i out all past so_far =
    sym (append-nil out) ∙ ap (λ (l : List ℕ). out ++ l) (sym (at_drop_all (flat_map part_word) parts i past)) ∙ so_far

-- parts before others, each by itself
before : (part : Part) (parts : List Part) → part_word part ++ flat_map part_word parts ≡ words_before part parts
before part [] = append-nil (part_word part)
before part (next ∷ parts) = ap (λ (l : List ℕ). part_word part ++ l) (before next parts)

pub parts_are : (parts : List Part) → flat_map part_word parts ≡ part_words parts
parts_are [] = refl
parts_are (part ∷ parts) = before part parts

-- what is put behind a front of five pieces
pub framed : (f a n b w x : List ℕ) → f ++ (a ++ (n ++ (b ++ (w ++ x)))) ≡ (f ++ (a ++ (n ++ (b ++ w)))) ++ x
framed f a n b w x = sym (
    append_assoc f (a ++ (n ++ (b ++ w))) x
    ∙ ap (λ (l : List ℕ). f ++ l) (append_assoc a (n ++ (b ++ w)) x
    ∙ ap (λ (l : List ℕ). a ++ l) (append_assoc n (b ++ w) x ∙ ap (λ (l : List ℕ). n ++ l) (append_assoc b w x))))
