-- What the private functions of `gather` and `make` give: the parts of a lattice.
use Rattle.std.specs.Prelude.{ℕ, ◌*◌, ◌≤◌, ◌<◌, ◌^◌, unsigned_abs, length, true, false, nat_le, unwrap_or}
use Rattle.std.specs.List.{find}
use Rattle.geo_kernel.specs.declared.point.Rect4.{Rect4}
use Rattle.pcb_model.specs.declared.design.Design.{Design}
use Rattle.route_lattice.specs.declared.gather.Parts.{Parts}
use Rattle.route_lattice.specs.declared.lines.Ruler.{Ruler}
use Rattle.route_lattice.specs.declared.make.Axes.{Axes}
use Rattle.route_lattice.specs.Gather.{unit_of, outline_of, anchors_of, signals_of}
use Rattle.route_lattice.specs.Lines.{line_list}
use Rattle.route_lattice.specs.Mesh.{Mesh, node_count}
use Rattle.route_lattice.specs.Spans.{IsAxisFit, IsAxisOf}
use Rattle.route_lattice.specs.Whole.{doublings}
use Rattle.route_lattice.specs.declared.limits.TheConstants.{DEFAULT_NODES, FINEST_GRID, TRIED_GRIDS}
use Rattle.pcb_model.specs.declared.limits.TheConstants.{MOST_LAYERS}

-- a box's sides are within 2^29
pub record IsBoxWithin (r : Rect4) : Type 0 where
  pub left : unsigned_abs r.x0 ≤ 2 ^ 29
  pub right : unsigned_abs r.x1 ≤ 2 ^ 29
  pub bottom : unsigned_abs r.y0 ≤ 2 ^ 29
  pub top : unsigned_abs r.y1 ≤ 2 ^ 29

-- the parts of a design
abbrev pub parts_of : Design → Parts
parts_of d = record {
  unit = unit_of d;
  outline = outline_of d;
  across = anchors_of (unit_of d) false d.pins;
  up = anchors_of (unit_of d) true d.pins;
  layers = signals_of d.layers;
}

-- their sizes
pub record ArePartsFit (p : Parts) : Type 0 where
  pub some_unit : 0 < p.unit
  pub short_unit : p.unit ≤ 2 ^ 29
  pub outline_within : IsBoxWithin p.outline
  pub few_across : length p.across ≤ 2 ^ 26
  pub few_up : length p.up ≤ 2 ^ 26
  pub few_layers : length p.layers ≤ MOST_LAYERS

-- the lattice of parts and a grid
abbrev pub mesh_of : Parts → ℕ → Mesh
mesh_of p grid = record {
  grid = grid;
  unit = p.unit;
  xs = line_list p.unit grid p.outline.x0 p.outline.x1 p.across;
  ys = line_list p.unit grid p.outline.y0 p.outline.y1 p.up;
  layers = p.layers;
}

-- the rulers of the two directions
abbrev pub across_ruler : Parts → ℕ → Ruler
across_ruler p grid = record { unit = p.unit; grid = grid; low = p.outline.x0; high = p.outline.x1 }

abbrev pub up_ruler : Parts → ℕ → Ruler
up_ruler p grid = record { unit = p.unit; grid = grid; low = p.outline.y0; high = p.outline.y1 }

pub record AreAxesFit (a : Axes) : Type 0 where
  pub across : IsAxisFit a.across
  pub up : IsAxisFit a.up

-- both directions of the lattice of parts and a grid
pub record AreAxesOf (p : Parts) (grid : ℕ) (a : Axes) : Type 0 where
  pub across : IsAxisOf (across_ruler p grid) p.across a.across
  pub up : IsAxisOf (up_ruler p grid) p.up a.up

-- the default grid of parts
unfoldable pub first_grid : Parts → ℕ
first_grid p =
    unwrap_or (find (λ grid. nat_le (node_count (mesh_of p grid)) DEFAULT_NODES) (doublings TRIED_GRIDS FINEST_GRID))
    (FINEST_GRID * 2 ^ TRIED_GRIDS)
