-- How long the text is.
use Rattle.std.proofs.Common.{◌≡◌, ◌∙◌, ℕ, zero, suc, ◌+◌, ◌-◌, ◌*◌, ◌/◌, ◌%◌, ◌^◌, ◌<◌, ◌≤◌, refl, arith}
use Rattle.std.proofs.Common.{length-append, lit≤}
use Rattle.std.proofs.Common.{List, [], ◌∷◌, length, All, decimal, flat_map, slice_set, slice_index_or}
use Rattle.std.proofs.Math.Nat.{div-le_self}
use Rattle.std.proofs.lemmas.Fmt.{length-decimal-le_wide}
use Rattle.std.proofs.lemmas.List.Elements.{All-cons, All-head, All-nil, All-set, All-tail}
use Rattle.std.proofs.lemmas.List.Edits.{length-swap}
use Rattle.std.proofs.lemmas.List.FromFn.{length-range_with_len}
use Rattle.std.specs.List.{range_with_len, swap}
use Rattle.board_gen.specs.Board.{coordinate, end_lines, head_lines, library_lines, net_line, net_lines, next_state}
use Rattle.board_gen.specs.Board.{order_of, place_line, shuffled, side_of, text_of}

-- a number of a board
abbrev IsSmall : ℕ → Type 0
IsSmall n = n < 2 ^ 32

number_short : (n : ℕ) → n < 10 ^ 20 → length (decimal n) ≤ 20
number_short n small = length-decimal-le_wide 20 n (omega arith) small (omega arith)

place_short : (side site : ℕ) → 0 < side → IsSmall side → IsSmall site → length (place_line side site) ≤ 100
unfolding place_line
place_short side site some narrow small =
    let a = number_short site (omega arith) in
    let b = number_short (coordinate (site % side)) (omega arith) in
    let row = div-le_self site side in
    let d = number_short (coordinate (site / side)) (omega arith) in
    simp length-append (omega arith)

net_short : (net from to : ℕ) → IsSmall net → IsSmall from → IsSmall to → length (net_line net from to) ≤ 100
unfolding net_line
net_short net from to x y z =
    let a = number_short net (omega arith) in
    let b = number_short from (omega arith) in
    let d = number_short to (omega arith) in
    simp length-append (omega arith)

places_short : (side from count : ℕ) → 0 < side → IsSmall side → from + count < 2 ^ 32
    → length (flat_map (place_line side) (range_with_len from count)) ≤ 100 * count
places_short side from zero some narrow small = omega arith
places_short side from (suc count) some narrow small =
    let one = place_short side from some narrow (omega arith) in
    let rest = places_short side (from + 1) count some narrow (omega arith) in
    simp length-append (omega arith)

nets_short : (net : ℕ) (entries : List ℕ) → net + length entries < 2 ^ 32 → All IsSmall entries
    → length (net_lines net entries) ≤ 100 * length entries
nets_short net [] small all = omega arith
nets_short net (a ∷ []) small all = omega arith
nets_short net (a ∷ b ∷ rest) small all =
    let behind = All-tail IsSmall a (b ∷ rest) all in
    let one = net_short net a b (omega arith) (All-head IsSmall a (b ∷ rest) all) (All-head IsSmall b rest behind) in
    let more = nets_short (net + 1) rest (omega arith) (All-tail IsSmall b rest behind) in
    simp length-append (omega arith)

-- ---- the entries are small

numbers_small : (from count : ℕ) → from + count < 2 ^ 32 → All IsSmall (range_with_len from count)
numbers_small from zero small = All-nil IsSmall
numbers_small from (suc count) small = All-cons IsSmall from (range_with_len (from + 1) count) (omega arith)
    (numbers_small (from + 1) count (omega arith))

entry_small : (entries : List ℕ) (k d : ℕ) → All IsSmall entries → IsSmall d → IsSmall (slice_index_or entries k d)
entry_small [] k d all small = small
entry_small (a ∷ rest) zero d all small = All-head IsSmall a rest all
entry_small (a ∷ rest) (suc k) d all small = entry_small rest k d (All-tail IsSmall a rest all) small

swap_small : (entries : List ℕ) (i j : ℕ) → All IsSmall entries → All IsSmall (swap entries i j)
swap_small [] i j all = all
swap_small (a ∷ rest) i j all =
    let first = All-head IsSmall a rest all in
    let from = entry_small (a ∷ rest) j a all first in
    let to = entry_small (a ∷ rest) i a all first in
    All-set IsSmall (slice_set (a ∷ rest) i (slice_index_or (a ∷ rest) j a)) j (slice_index_or (a ∷ rest) i a) to
    (All-set IsSmall (a ∷ rest) i (slice_index_or (a ∷ rest) j a) from all)

shuffled_small : (t state : ℕ) (entries : List ℕ) → All IsSmall entries → All IsSmall (shuffled t state entries)
shuffled_small zero state entries all = all
shuffled_small (suc t) state entries all =
    shuffled_small t (next_state state) _ (swap_small entries (suc t) (next_state state / 65536 % (suc t + 1)) all)

shuffled_long : (t state : ℕ) (entries : List ℕ) → length (shuffled t state entries) ≡ length entries
shuffled_long zero state entries = refl
shuffled_long (suc t) state entries =
    shuffled_long t (next_state state) (swap entries (suc t) (next_state state / 65536 % (suc t + 1)))
    ∙ length-swap entries (suc t) (next_state state / 65536 % (suc t + 1))

-- ---- the whole

head_short : (side : ℕ) → IsSmall side → length (head_lines side) ≤ 400
unfolding head_lines
head_short side small =
    let a = number_short (coordinate side) (omega arith) in
    simp length-append (omega arith)

rest_short : length library_lines + length end_lines ≤ 400
unfolding library_lines end_lines
rest_short = lit≤ tt

pub text_short : (n : ℕ) → n ≤ 400 → 0 < side_of (2 * n) → IsSmall (side_of (2 * n)) → length (text_of n) ≤ 2 ^ 26
unfolding text_of order_of
text_short n few some narrow =
    let entries = range_with_len 0 (2 * n) in
    let head = head_short (side_of (2 * n)) narrow in
    let places = places_short (side_of (2 * n)) 0 (2 * n) some narrow (omega arith) in
    let long : length (shuffled (2 * n - 1) n entries) ≡ 2 * n = shuffled_long (2 * n - 1) n entries
    ∙ length-range_with_len 0 (2 * n) in
    let nets = nets_short 0 (shuffled (2 * n - 1) n entries) (omega arith) (shuffled_small (2 * n - 1) n entries
    (numbers_small 0 (2 * n) (omega arith))) in
    let rest = rest_short in
    simp length-append (omega arith)
