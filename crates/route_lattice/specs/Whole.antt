-- The lattice of a design and a grid, when it has too many nodes, and the default grid.
use Rattle.std.specs.Prelude.{◌≡◌, ℕ, zero, suc, ◌*◌, ◌≤◌, ◌<◌, ◌^◌, List, [], ◌∷◌, nat_le, true, false, Result, Ok}
use Rattle.std.specs.Prelude.{Err, unwrap_or}
use Rattle.std.specs.List.{find}
use Rattle.pcb_model.specs.declared.design.Design.{Design}
use Rattle.route_lattice.specs.declared.make.LatticeFault.{LatticeFault}
use Rattle.route_lattice.specs.declared.make.LatticeFault.TheVariants.{TooManyNodes, Memory}
use Rattle.route_lattice.specs.Gather.{unit_of, outline_of, anchors_of, signals_of}
use Rattle.route_lattice.specs.Lines.{line_list}
use Rattle.route_lattice.specs.Mesh.{Mesh, node_count}
use Rattle.route_lattice.specs.declared.limits.TheConstants.{MOST_NODES, DEFAULT_NODES, FINEST_GRID, TRIED_GRIDS}

-- the lattice of a design and a grid: its lines lie strictly inside the box of the first boundary
abbrev pub lattice_of : Design → ℕ → Mesh
lattice_of d grid = record {
  grid = grid;
  unit = unit_of d;
  xs = line_list (unit_of d) grid (outline_of d).x0 (outline_of d).x1 (anchors_of (unit_of d) false d.pins);
  ys = line_list (unit_of d) grid (outline_of d).y0 (outline_of d).y1 (anchors_of (unit_of d) true d.pins);
  layers = signals_of d.layers;
}

-- the lattice m, where it has at most 2^24 nodes, else how many it would have
abbrev pub IsLatticeOf : Mesh → Result Mesh LatticeFault → Type 0
IsLatticeOf m (Ok l) = (l ≡ m) × (node_count m ≤ MOST_NODES)
IsLatticeOf m (Err (TooManyNodes count)) = (count ≡ node_count m) × (MOST_NODES < node_count m)
IsLatticeOf m (Err (Memory e)) = Unit {0}

-- n grids, each twice the one before it
abbrev pub doublings : ℕ → ℕ → List ℕ
doublings zero grid = []
doublings (suc n) grid = grid ∷ doublings n (2 * grid)

-- the first of 100, 200, 400 .. 204,800 um whose lattice has at most 2^22 nodes, else 409,600 um; in nm
unfoldable pub default_grid : Design → ℕ
default_grid d =
    unwrap_or (find (λ grid. nat_le (node_count (lattice_of d grid)) DEFAULT_NODES) (doublings TRIED_GRIDS FINEST_GRID))
    (FINEST_GRID * 2 ^ TRIED_GRIDS)
