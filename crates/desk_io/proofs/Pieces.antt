-- A list that is written piece by piece.
use Rattle.std.proofs.Common.{ℕ, ◌+◌, ◌-◌, List, ◌++◌, length, take, drop, Option, sym, ap, subst, ◌∙◌, arith}
use Rattle.std.proofs.Common.{length-drop, ◌≡◌, ◌<◌, ◌≤◌, Bool, true, if◌then◌else◌, None, Some, IfSome, ap₂}
use Rattle.std.proofs.Common.{append-nil}
use Rattle.std.proofs.lemmas.List.{take_all, take-append-le, length-append, length-take}
use Rattle.std.proofs.Math.Seq.{take-add}
use Rattle.std.proofs.KnownBytes.{Appends-trans, Consumes-trans}
use Rattle.std.specs.Io.KnownBytes.{Appends, Consumes, IsAtEnd}

-- what took the first i, and then the first n of what is after them, took the first i + n
pub taken_more : (a b c : Option (List ℕ)) (xs : List ℕ) (i n : ℕ)
    → Appends a b (take i xs) → Appends b c (take n (take (length xs - i) (drop i xs))) → Appends a c (take (i + n) xs)
taken_more a b c xs i n first more =
    let all = take_all (length xs - i) (drop i xs) (omega (arith, length-drop i xs)) in
    let joined = take-add i n xs ∙ ap (λ rest. take i xs ++ take n rest) (sym all) in
    subst (Appends a c) (sym joined) (Appends-trans a b c _ _ first more)

-- what was read, and then the n bytes of a buffer that were added to it
pub read_more : (a b c : Option (List ℕ)) (old new buf rest : List ℕ) (n : ℕ) (ok : Bool) → n ≤ length buf
    → Consumes a b old → Consumes b c (take n buf) → ok ≡ true
    → new ≡ (if ok then old ++ take n (buf ++ rest) else old) → Consumes a c new
read_more a b c old new buf rest n ok h p q s e =
    let added = e ∙ ap (λ t. if t then old ++ take n (buf ++ rest) else old) s
    ∙ ap (λ xs. old ++ xs) (take-append-le n buf rest h) in
    subst (Consumes a c) (sym added) (Consumes-trans a b c old (take n buf) p q)

-- no more was added than there was room for
pub read_within : (len new limit n : ℕ) (xs : List ℕ) (ok : Bool) → len ≤ limit → n ≤ limit - len → ok ≡ true
    → new ≡ (if ok then len + length (take n xs) else len) → new ≤ limit
read_within len new limit n xs ok h room s e =
    let added = e ∙ ap (λ t. if t then len + length (take n xs) else len) s in
    omega (arith, h, room, added, length-take n xs)

-- a read of nothing at the end: what was read is all
pub read_all : (a b c : Option (List ℕ)) (bytes buf : List ℕ) (n : ℕ) → Consumes a b bytes → Consumes b c (take n buf)
    → n ≡ 0 → IsAtEnd c → IfSome a (λ xs. bytes ≡ xs)
read_all None b c bytes buf n p q e h = tt
read_all (Some x) None c bytes buf n p q e h = absurd p
read_all (Some x) (Some y) None bytes buf n p q e h = absurd q
read_all (Some x) (Some y) (Some z) bytes buf n p q e h =
    sym (p ∙ ap (λ xs. bytes ++ xs) (q ∙ ap₂ (λ m xs. take m buf ++ xs) e h) ∙ append-nil bytes)

-- more was read than there was room for
pub read_past : (a b c : Option (List ℕ)) (bytes buf : List ℕ) (n limit : ℕ) → Consumes a b bytes
    → Consumes b c (take n buf) → n ≡ length (take n buf) → limit - length bytes < n
    → IfSome a (λ xs. limit < length xs)
read_past None b c bytes buf n limit p q e h = tt
read_past (Some x) None c bytes buf n limit p q e h = absurd p
read_past (Some x) (Some y) None bytes buf n limit p q e h = absurd q
read_past (Some x) (Some y) (Some z) bytes buf n limit p q e h =
    let first = ap length p ∙ length-append bytes y in
    let second = ap length q ∙ length-append (take n buf) z in
    omega (arith, first, second, e, h)
