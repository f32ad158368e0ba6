-- A word that is an option with a value behind it.
use Rattle.std.proofs.Common.{◌≡◌, ◌∙◌, ℕ, ◌≤◌, ◌-◌, List, [], ◌∷◌, ◌++◌, ap, arith, codes, drop, get_or, length}
use Rattle.std.proofs.Common.{refl, sym, take}
use Rattle.std.proofs.lemmas.List.{take_all}
use Rattle.route_words.specs.Parts.{Word}
use Rattle.fault_notes.specs.declared.trouble.Choice.{Choice}
use Rattle.fault_notes.specs.Words.{name_of, with_value}

-- what stands behind the first byte, which is `=`
behind_sign : (rest : Word) → 1 ≤ length rest → get_or rest 0 0 ≡ 61
    → rest ≡ codes "=" ++ take (length rest - 1) (drop 1 rest)
behind_sign [] some first = absurd (omega (arith, some))
behind_sign (c ∷ rest) some first =
    ap (λ (x : ℕ). x ∷ rest) first
    ∙ ap (λ (xs : Word). 61 ∷ xs) (sym (take_all (length (c ∷ rest) - 1) rest (omega arith)))

-- a word whose front is the name, and behind it that sign
pub valued_so : (choice : Choice) (word rest : Word) → word ≡ name_of choice ++ rest → 1 ≤ length rest
    → get_or rest 0 0 ≡ 61 → word ≡ with_value choice (take (length rest - 1) (drop 1 rest))
valued_so choice word rest is some first =
    is ∙ ap (λ (xs : Word). name_of choice ++ xs) (behind_sign rest some first)
