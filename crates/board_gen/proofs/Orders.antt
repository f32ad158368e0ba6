-- Steps of the loops over sites and entries.
use Rattle.std.proofs.Common.{◌≡◌, ℕ, zero, suc, ◌+◌, ◌-◌, ◌*◌, ◌<◌, ◌≤◌, refl, ap, arith}
use Rattle.std.proofs.Common.{List, [], ◌∷◌, ◌++◌, length, drop, get_or, drop-cons, true, false, Bool, nat_le, find}
use Rattle.std.proofs.Common.{Some}
use Rattle.std.proofs.Math.Nat.{le-mul_of_pos_right}
use Rattle.std.proofs.lemmas.Bool.{leb-false, lt-leb}
use Rattle.std.specs.List.{range_with_len}
use Rattle.board_gen.specs.Board.{net_line, net_lines}

pub range_next : (a b : ℕ) → a < b → range_with_len a (b - a) ≡ a ∷ range_with_len (a + 1) (b - (a + 1))
range_next a b below = from (b - a) refl
  where
    from : (n : ℕ) → b - a ≡ n → range_with_len a n ≡ a ∷ range_with_len (a + 1) (b - (a + 1))
    from zero e = absurd (omega arith)
    from (suc n) e =
        let rest : n ≡ b - (a + 1) = omega arith in
        ap (λ (m : ℕ). a ∷ range_with_len (a + 1) m) rest

pub nets_end : (net : ℕ) (entries : List ℕ) → length entries ≤ 1 → net_lines net entries ≡ []
nets_end net [] few = refl
nets_end net (a ∷ []) few = refl
nets_end net (a ∷ b ∷ rest) few = absurd (omega arith)

pub nets_next : (net at : ℕ) (entries : List ℕ) → at + 1 < length entries
    → net_lines net (drop at entries) ≡ net_line net (get_or entries at 0) (get_or entries (at + 1) 0)
    ++ net_lines (net + 1) (drop (at + 2) entries)
nets_next net at entries within =
    let first : drop at entries ≡ get_or entries at 0 ∷ drop (suc at) entries = drop-cons entries at 0 (omega arith) in
    let second : drop (suc at) entries ≡ get_or entries (suc at) 0 ∷ drop (suc (suc at)) entries =
    drop-cons entries (suc at) 0 (omega arith) in
    let one : suc at ≡ at + 1 = omega arith in
    let two : suc (suc at) ≡ at + 2 = omega arith in
    let more : drop at entries ≡ get_or entries at 0 ∷ get_or entries (at + 1) 0 ∷ drop (at + 2) entries =
    rw (← one, ← two) (rw second at first) in
    rw more refl

-- ---- the side of the square

pub le_square : (s : ℕ) → s ≤ s * s
le_square zero = omega arith
le_square (suc s) = le-mul_of_pos_right (suc s) (omega arith)

pub root_some : (s count : ℕ) → 1 ≤ count → count ≤ s * s → 1 ≤ s
root_some zero count some enough = absurd (omega arith)
root_some (suc s) count some enough = omega arith

-- the square of this one is too small
pub side_next : (count side : ℕ) → side ≤ count → side * side < count
    → find (λ s. nat_le count (s * s)) (range_with_len side (count + 1 - side))
    ≡ find (λ s. nat_le count (s * s)) (range_with_len (side + 1) (count + 1 - (side + 1)))
side_next count side small less = rw (range_next side (count + 1) (omega arith), lt-leb count (side * side) less) refl

-- the square of this one is great enough
pub side_here : (count side : ℕ) → side ≤ count → count ≤ side * side
    → find (λ s. nat_le count (s * s)) (range_with_len side (count + 1 - side)) ≡ Some side
side_here count side small enough = by (nat_le count (side * side)) refl
  where
    by : (b : Bool) → nat_le count (side * side) ≡ b → find (λ s. nat_le count (s * s))
        (range_with_len side (count + 1 - side)) ≡ Some side
    by true e = rw (range_next side (count + 1) (omega arith), e) refl
    by false e = absurd (omega (arith, leb-false count (side * side) e))
