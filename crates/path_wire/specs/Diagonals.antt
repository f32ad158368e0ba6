-- Moves at 45 degrees, behind those along the lines and the vias.
use Rattle.std.specs.Prelude.{◌≡◌, ℕ, ◌+◌, ◌-◌, ◌*◌, ◌/◌, ◌==◌, ◌-ℤ◌, unsigned_abs, cond, nat_lt, List, Option, Some}
use Rattle.std.specs.Prelude.{None}
use Rattle.std.specs.Option.{option_map}
use Rattle.pcb_model.specs.declared.item.Item.{Item}
use Rattle.pcb_model.specs.declared.item.Probe.{Probe}
use Rattle.pcb_model.specs.declared.design.Design.{Design}
use Rattle.route_lattice.specs.declared.moves.Move.{Move}
use Rattle.route_lattice.specs.declared.moves.Move.TheVariants.{Step}
use Rattle.route_lattice.specs.Walks.{MoveGraph}
use Rattle.route_lattice.specs.Mesh.{Mesh, node_count, point_of}
use Rattle.route_lattice.specs.Ways.{step_at, way, way_count}
use Rattle.route_lattice.specs.Legal.{IsOpen, probe_of, way_between, way_price}

-- ---- where they lead
-- a diagonal goes over a step along x and one along y: direction 4 to greater x and y, 5 to lesser x and greater y,
-- 6 to lesser x and y, 7 to greater x and lesser y
abbrev pub across : ℕ → ℕ
across dir = cond (dir == 4) 0 (cond (dir == 7) 0 1)

abbrev pub up : ℕ → ℕ
up dir = cond (dir == 4) 2 (cond (dir == 5) 2 3)

-- the way between two nodes along the axes
abbrev pub gap_between : Mesh → ℕ → ℕ → ℕ
gap_between m v w = way_between (point_of m v) (point_of m w)

-- a step that is a diagonal's second leg makes it one where both gaps are equal
abbrev pub second_leg : Mesh → ℕ → ℕ → ℕ → Option (Move × ℕ) → Option (Move × ℕ)
second_leg m v dir mid None = None
second_leg m v dir mid (Some s) = cond (gap_between m v mid == gap_between m mid s.1) (Some (Step dir, s.1)) None

abbrev pub first_leg : Mesh → ℕ → ℕ → Option (Move × ℕ) → Option (Move × ℕ)
first_leg m v dir None = None
first_leg m v dir (Some s) = second_leg m v dir s.1 (step_at m s.1 (up dir))

-- the diagonal of a direction from 4 to 7
abbrev pub diagonal_at : Mesh → ℕ → ℕ → Option (Move × ℕ)
diagonal_at m v dir = first_leg m v dir (step_at m v (across dir))

-- ---- all moves of a net
abbrev pub wide_count : Design → Mesh → ℕ → ℕ
wide_count d m net = way_count d m net + 4

-- move i of a node: those along the lines and the vias, and then the four diagonals
abbrev pub wide_way : Design → Mesh → ℕ → ℕ → ℕ → Option (Move × ℕ)
wide_way d m net v i =
    cond (nat_lt i (way_count d m net)) (way d m net v i) (diagonal_at m v (4 + (i - way_count d m net)))

-- what it lays, if it is there
abbrev pub wide_probe_at : Design → Mesh → ℕ → ℕ → ℕ → Option Probe
wide_probe_at d m net v i = option_map (λ (w : Move × ℕ). probe_of d m net v w.0 w.1) (wide_way d m net v i)

-- ---- prices
-- a diagonal over two gaps costs the gap times 1.414214, rounded up
abbrev pub diagonal_price : ℕ → ℕ
diagonal_price gap = (gap * 1414214 + 999999) / 1000000

abbrev pub slope_price : Mesh → ℕ → Option (Move × ℕ) → ℕ
slope_price m v None = 0
slope_price m v (Some w) = diagonal_price (unsigned_abs ((point_of m w.1).x -ℤ (point_of m v).x))

-- move i of a node costs what it costs among the legal ones, or what its diagonal does; 0 where there is none
abbrev pub wide_price : Design → Mesh → ℕ → ℕ → ℕ → ℕ → ℕ
wide_price d m net via_cost v i =
    cond (nat_lt i (way_count d m net)) (way_price m via_cost v (way d m net v i))
    (slope_price m v (diagonal_at m v (4 + (i - way_count d m net))))

-- the nodes of the lattice, and the moves of the net along the lines, by vias and at 45 degrees, open on the items
abbrev pub wide_graph : Design → Mesh → List Item → ℕ → ℕ → MoveGraph
wide_graph d m items net via_cost = record {
  count = node_count m;
  arity = wide_count d m net;
  at = wide_way d m net;
  open_at = λ v i. IsOpen d items net (wide_probe_at d m net v i);
  priced = λ v i price. price ≡ wide_price d m net via_cost v i;
}
