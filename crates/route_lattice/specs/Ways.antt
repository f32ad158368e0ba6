-- The moves of a net at a node.
use Rattle.std.specs.Prelude.{ℕ, ◌+◌, ◌-◌, ◌*◌, ◌/◌, ◌%◌, List, [], length, slice_index, slice_get, Bool, not, ◌&&◌}
use Rattle.std.specs.Prelude.{cond, nat_lt, ◌==◌, Option, Some, None}
use Rattle.std.specs.List.{list_any}
use Rattle.geo_kernel.specs.declared.point.Point.{Point}
use Rattle.pcb_model.specs.declared.item.Piece.{Piece}
use Rattle.pcb_model.specs.declared.design.Net.{Net}
use Rattle.pcb_model.specs.declared.design.Design.{Design}
use Rattle.pcb_model.specs.Pieces.{padstack_pieces}
use Rattle.route_lattice.specs.declared.moves.Move.{Move}
use Rattle.route_lattice.specs.declared.moves.Move.TheVariants.{Step, Via}
use Rattle.route_lattice.specs.Near.{are_near_at}
use Rattle.route_lattice.specs.Mesh.{Mesh, node_at, column, row, level, point_of, layer_of}

-- the step of a direction, to the next line at greater x, lesser x, greater y, lesser y
abbrev pub step_at : Mesh → ℕ → ℕ → Option (Move × ℕ)
step_at m v dir =
    let l = level m v in let j = row m v in let i = column m v in
    cond (dir == 0) (cond (nat_lt (i + 1) (length m.xs)) (Some (Step 0, node_at m l j (i + 1))) None)
    (cond (dir == 1) (cond (nat_lt 0 i) (Some (Step 1, node_at m l j (i - 1))) None)
    (cond (dir == 2) (cond (nat_lt (j + 1) (length m.ys)) (Some (Step 2, node_at m l (j + 1) i)) None)
    (cond (nat_lt 0 j) (Some (Step 3, node_at m l (j - 1) i)) None)))

-- the padstacks of a net's vias
abbrev pub vias_in : Option Net → List ℕ
vias_in None = []
vias_in (Some n) = n.vias

abbrev pub vias_of : Design → ℕ → List ℕ
vias_of d net = vias_in (slice_get d.nets net)

-- some piece of copper lies on the layer
abbrev pub has_copper : List Piece → ℕ → Bool
has_copper ps layer = list_any (λ (q : Piece). q.layer == layer) ps

-- a padstack joins two layers, at a point at which all its vertices stay within 2^29
abbrev pub can_join : List Piece → Point → ℕ → ℕ → Bool
can_join ps at from to = not (from == to) && (has_copper ps from && (has_copper ps to && are_near_at at ps))

-- the via of a padstack to signal layer t
abbrev pub via_at : Design → Mesh → ℕ → ℕ → ℕ → Option (Move × ℕ)
via_at d m v p t =
    let to = slice_index m.layers t in
    cond (can_join (padstack_pieces d p) (point_of m v) (layer_of m v) to)
    (Some (Via p to, node_at m t (row m v) (column m v))) None

-- move i of a node: from 4 on, for each via of the net's list, one number for each signal layer
abbrev pub way : Design → Mesh → ℕ → ℕ → ℕ → Option (Move × ℕ)
way d m net v i =
    cond (nat_lt i 4) (step_at m v i)
    (via_at d m v (slice_index (vias_of d net) ((i - 4) / length m.layers)) ((i - 4) % length m.layers))

abbrev pub way_count : Design → Mesh → ℕ → ℕ
way_count d m net = 4 + length (vias_of d net) * length m.layers
