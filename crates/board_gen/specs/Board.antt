-- The generated board of a number: sites in a square, joined in pairs by a shuffle, and its text line by line.
use Rattle.std.specs.Prelude.{◌≡◌, ℕ, zero, suc, ◌+◌, ◌-◌, ◌*◌, ◌/◌, ◌%◌, ◌^◌, nat_le, List, [], ◌∷◌, ◌++◌, codes}
use Rattle.std.specs.Prelude.{decimal}
use Rattle.std.specs.Prelude.{find, flat_map, unwrap_or}
use Rattle.std.specs.List.{range_with_len, swap}

-- new is old with the piece at its end
pub record Appends (old new piece : List ℕ) : Type 0 where
  pub is : new ≡ old ++ piece

-- ---- sites

-- the first of 0, 1, .. whose square is at least so great
unfoldable pub side_of : ℕ → ℕ
side_of count = unwrap_or (find (λ side. nat_le count (side * side)) (range_with_len 0 (count + 1))) 0

-- the coordinate of the column or row with this number, from 0 on, in um
abbrev pub coordinate : ℕ → ℕ
coordinate place = 5000 * (place + 1)

-- ---- pairs

abbrev pub next_state : ℕ → ℕ
next_state state = (1103515245 * state + 12345) % 2 ^ 31

-- the entries after each one from number t down to number 1 changed places with one that isn't behind it,
-- which the next state names each time
abbrev pub shuffled : ℕ → ℕ → List ℕ → List ℕ
shuffled zero state entries = entries
shuffled (suc t) state entries =
    shuffled t (next_state state) (swap entries (suc t) (next_state state / 65536 % (suc t + 1)))

-- the sites in the order in which they are joined, two by two
unfoldable pub order_of : ℕ → List ℕ
order_of n = shuffled (2 * n - 1) n (range_with_len 0 (2 * n))

-- ---- lines

unfoldable pub head_lines : ℕ → List ℕ
head_lines side = codes "(pcb gen\n(parser (string_quote \"))\n(resolution um 10)\n(unit um)\n"
    ++ codes "(structure\n(layer F.Cu (type signal))\n(layer B.Cu (type signal))\n"
    ++ codes "(boundary (rect pcb 0 0 " ++ decimal (coordinate side) ++ codes " " ++ decimal (coordinate side)
    ++ codes "))\n(via V)\n(rule (width 200) (clearance 200)))\n(placement (component P\n"

-- sites stand row by row, so many in each
unfoldable pub place_line : ℕ → ℕ → List ℕ
place_line side site = codes "(place C" ++ decimal site
    ++ codes " " ++ decimal (coordinate (site % side)) ++ codes " " ++ decimal (coordinate (site / side))
    ++ codes " front 0)\n"

unfoldable pub library_lines : List ℕ
library_lines = codes "))\n(library\n(image P (pin PAD 1 0 0))\n"
    ++ codes "(padstack PAD (shape (circle F.Cu 1000)) (shape (circle B.Cu 1000)))\n"
    ++ codes "(padstack V (shape (circle F.Cu 600)) (shape (circle B.Cu 600))))\n(network\n"

unfoldable pub net_line : ℕ → ℕ → ℕ → List ℕ
net_line net from to = codes "(net N" ++ decimal net
    ++ codes " (pins C" ++ decimal from ++ codes "-1 C" ++ decimal to ++ codes "-1))\n"

-- two entries for each net, from this number on
abbrev pub net_lines : ℕ → List ℕ → List ℕ
net_lines net [] = []
net_lines net (from ∷ []) = []
net_lines net (from ∷ to ∷ rest) = net_line net from to ++ net_lines (net + 1) rest

unfoldable pub end_lines : List ℕ
end_lines = codes ")\n(wiring))\n"

unfoldable pub text_of : ℕ → List ℕ
text_of n = head_lines (side_of (2 * n)) ++ flat_map (place_line (side_of (2 * n))) (range_with_len 0 (2 * n))
    ++ library_lines ++ net_lines 0 (order_of n) ++ end_lines
