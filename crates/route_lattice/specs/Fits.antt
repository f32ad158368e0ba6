-- When a lattice is one of a design.
use Rattle.std.specs.Prelude.{◌≡◌, ◌<◌, ◌≤◌, ◌^◌, unsigned_abs, length, All}
use Rattle.std.specs.Ordering.{int_cmp}
use Rattle.std.specs.List.Sorted.{IsStrictlySortedBy}
use Rattle.pcb_model.specs.declared.design.Design.{Design}
use Rattle.pcb_model.specs.Scale.{scale_of}
use Rattle.pcb_model.specs.Board.{IsSignal}
use Rattle.route_lattice.specs.Mesh.{Mesh, node_count}
use Rattle.route_lattice.specs.declared.limits.TheConstants.{MOST_NODES}
use Rattle.pcb_model.specs.declared.limits.TheConstants.{MOST_LAYERS}

-- its unit is that of the design's session; its lines ascend, within 2^29; its layers are signal layers of the design;
-- it has at most 2^24 nodes
pub record FitsDesign (d : Design) (m : Mesh) : Type 0 where
  pub unit_is : m.unit ≡ (scale_of d).nm
  pub some_unit : 0 < m.unit
  pub small_unit : m.unit ≤ 25400000
  pub xs_ascend : IsStrictlySortedBy int_cmp m.xs
  pub ys_ascend : IsStrictlySortedBy int_cmp m.ys
  pub xs_within : All (λ x. unsigned_abs x ≤ 2 ^ 29) m.xs
  pub ys_within : All (λ y. unsigned_abs y ≤ 2 ^ 29) m.ys
  pub signal : All (IsSignal d) m.layers
  pub few_layers : length m.layers ≤ MOST_LAYERS
  pub few_nodes : node_count m ≤ MOST_NODES
