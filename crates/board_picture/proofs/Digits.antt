-- What the digits behind the point are worth, and how they are put.
use Rattle.std.proofs.Common.{◌≡◌, ◌∙◌, ℕ, ◌+◌, ◌-◌, ◌*◌, ◌/◌, ◌%◌, ◌<◌, ◌==◌, Bool, true, false, if◌then◌else◌}
use Rattle.std.proofs.Common.{List, [], ◌∷◌, ◌++◌, length, get_or, drop, refl, sym, ap, subst, arith}
use Rattle.std.proofs.Math.Arith.{mod-mul}
use Rattle.std.proofs.lemmas.Bool.{eqb-true, ne_eqb}
use Rattle.ses_writer.specs.Words.{degrees, decimals}
use Rattle.ses_writer.proofs.Puts.{Leads, leads_on, with_next}
use Rattle.board_picture.specs.Exact.{places, worth, IsExact}

-- one place more before the others
next_place : (n p : ℕ) (ps : List ℕ) → 0 < p → worth ps (decimals n ps) ≡ n % p
    → worth (p ∷ ps) (decimals n (p ∷ ps)) ≡ n % (10 * p)
next_place n p ps some rest = by (n % (10 * p) == 0) refl
  where
    by : (b : Bool) → (n % (10 * p) == 0) ≡ b → worth (p ∷ ps) (decimals n (p ∷ ps)) ≡ n % (10 * p)
    by true e = rw e (sym (eqb-true (n % (10 * p)) 0 e))
    by false e =
        let split : n % (10 * p) ≡ (n / p % 10) * p + n % p = mod-mul n (omega arith) some in
        let digit : 48 + n / p % 10 - 48 ≡ n / p % 10 = omega arith in
        rw e (ap (λ (k : ℕ). k * p + worth ps (decimals n ps)) digit
        ∙ ap (λ (k : ℕ). (n / p % 10) * p + k) rest ∙ sym split)

worth_of : (n : ℕ) → worth places (decimals n places) ≡ n % 1000000
worth_of n =
    let none : 0 ≡ n % 1 = omega arith in
    let one = next_place n 1 [] (omega arith) none in
    let two = next_place n 10 (1 ∷ []) (omega arith) one in
    let three = next_place n 100 (10 ∷ 1 ∷ []) (omega arith) two in
    let four = next_place n 1000 (100 ∷ 10 ∷ 1 ∷ []) (omega arith) three in
    let five = next_place n 10000 (1000 ∷ 100 ∷ 10 ∷ 1 ∷ []) (omega arith) four in
    next_place n 100000 (10000 ∷ 1000 ∷ 100 ∷ 10 ∷ 1 ∷ []) (omega arith) five

pub exact_length : (n : ℕ) → IsExact n (degrees n)
unfolding degrees
exact_length n = record { digits = decimals n places; word_is = refl; worth_is = worth_of n }

-- the digit at the next place is put
pub digit_put : (m : ℕ) (places : List ℕ) (i p b : ℕ) (out new all : List ℕ) → i < length places → p ≡ get_or places i p
    → ((m % (10 * p)) ≡ 0 → ⊥) → b ≡ 48 + m / p % 10 → new ≡ out ++ b ∷ [] → Leads out (decimals m (drop i places)) all
    → Leads new (decimals m (drop (i + 1) places)) all
digit_put m places i p b out new all lt is more digit put before =
    let rest = decimals m (drop (i + 1) places) in
    let left : Leads out (decimals m (p ∷ drop (i + 1) places)) all = with_next (decimals m) places i p lt is before in
    let now : Leads out ((48 + m / p % 10) ∷ rest) all =
    subst (λ (t : Bool). Leads out (if t then [] else (48 + m / p % 10) ∷ rest) all) (ne_eqb (m % (10 * p)) 0 more)
    left in
    leads_on {x = (48 + m / p % 10) ∷ []} now (record { is = put ∙ ap (λ (d : ℕ). out ++ d ∷ []) digit })
