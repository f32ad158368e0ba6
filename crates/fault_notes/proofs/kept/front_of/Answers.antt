use Rattle.std.proofs.Common.{◌≡◌, ℕ, List, length, min, take, arith, ap, ◌∙◌, sym, ⊎_elim}
use Rattle.std.proofs.lemmas.Bool.{cases_lt}
use Rattle.std.proofs.lemmas.List.{take_all, take_at, length-take-le}
use Rattle.fault_notes.proofs.kept.front_of.Goals as goal

-- as many as there are, and no more than that
take_least : (xs : List ℕ) (n count : ℕ) → count ≡ min (length xs) n → take count xs ≡ take n xs
take_least xs n count is =
    ⊎_elim (λ less. let whole : count ≡ length xs = omega arith in
    take_all count xs (omega (arith, whole)) ∙ sym (take_all n xs (omega arith)))
    (λ more. let same : count ≡ n = omega arith in ap (λ k. take k xs) same) (cases_lt (length xs) n)

pub returns-clause-front : goal.returns-clause-front
returns-clause-front c =
    let put = c.copy_from_slice.new.self in
    let bytes = c.args.bytes.now in
    let count = c.min-count.result in
    let put_is : put ≡ take count bytes = c.copy_from_slice.ensures.after ∙ grind arith in
    let size : length put ≡ count =
    ap (λ (xs : List ℕ). length xs) put_is ∙ length-take-le count bytes (omega arith)
    in
    take_at put _ count size ∙ put_is ∙ take_least bytes 80 count c.min-count.ensures
