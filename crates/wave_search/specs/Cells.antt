-- Cells in rows, each of which is entered at its price: a small graph of moves, for tests.
use Rattle.std.specs.Prelude.{◌≡◌, ℕ, ◌+◌, ◌-◌, ◌^◌, ◌<◌, ◌≤◌, List, length, slice_index_or, cond, nat_lt, Some, None}
use Rattle.route_lattice.specs.declared.moves.Move.TheVariants.{Step}
use Rattle.route_lattice.specs.Walks.{MoveGraph}

-- move i of a cell leads on by an offset, less the width of a row
abbrev pub next_cell : List ℕ → ℕ → ℕ → ℕ → ℕ
next_cell offsets width v i = v + slice_index_or offsets i 0 - width

abbrev pub price_of : List ℕ → ℕ → ℕ
price_of prices v = slice_index_or prices v 0

-- a cell of price 0 is a wall
abbrev pub cells_graph : List ℕ → List ℕ → ℕ → MoveGraph
cells_graph prices offsets width = record {
  count = length prices;
  arity = length offsets;
  at = λ v i. cond (nat_lt (next_cell offsets width v i) (length prices)) (Some (Step i, next_cell offsets width v i))
      None;
  open_at = λ v i. 0 < price_of prices (next_cell offsets width v i);
  priced = λ v i p. (p ≡ price_of prices (next_cell offsets width v i)) × (p ≤ 2 ^ 35);
}
