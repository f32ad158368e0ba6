-- The legal moves of a net on some copper.
use Rattle.std.specs.Prelude.{◌≡◌, ℕ, ◌+◌, ◌-ℤ◌, ◌<◌, ◌≤◌, ◌^◌, unsigned_abs, List, [], ◌∷◌, length, Option, Some, None}
use Rattle.std.specs.Prelude.{Contains, ◌⊎◌}
use Rattle.std.specs.Option.{option_map}
use Rattle.geo_kernel.specs.declared.point.Point.{Point}
use Rattle.pcb_model.specs.declared.item.Item.{Item}
use Rattle.pcb_model.specs.declared.item.Probe.{Probe}
use Rattle.pcb_model.specs.declared.item.Probe.TheVariants as probe
use Rattle.pcb_model.specs.declared.design.Design.{Design}
use Rattle.pcb_model.specs.Rules.{width_for}
use Rattle.pcb_model.specs.Pieces.{pieces_of, metal_of}
use Rattle.pcb_model.specs.Pairs.{ProbeAgrees}
use Rattle.pcb_model.specs.Board.{AreInside}
use Rattle.pcb_model.specs.Sound.{IsSound}
use Rattle.route_lattice.specs.declared.moves.Move.{Move}
use Rattle.route_lattice.specs.declared.moves.Move.TheVariants.{Step, Via}
use Rattle.route_lattice.specs.Walks.{MoveGraph}
use Rattle.route_lattice.specs.Mesh.{Mesh, node_count, point_of, layer_of}
use Rattle.route_lattice.specs.Fits.{FitsDesign}
use Rattle.route_lattice.specs.Ways.{way, way_count}

-- what the probe of the net stands for agrees with all items, and lies inside every boundary
pub record IsLegalProbe (d : Design) (items : List Item) (net : ℕ) (p : Probe) : Type 0 where
  pub agrees : (b : Item) → Contains items b → ProbeAgrees d net p b
  pub inside : AreInside d.bounds (pieces_of d (metal_of p))

-- the disc of the net's width at a node
abbrev pub disc_at : Design → Mesh → ℕ → ℕ → Probe
disc_at d m net node = probe.Disc (layer_of m node) (width_for d net) (point_of m node)

-- the disc at the node is legal
abbrev pub IsLegalNode : Design → Mesh → List Item → ℕ → ℕ → Type 0
IsLegalNode d m items net node = IsLegalProbe d items net (disc_at d m net node)

-- what a move from a node lays: a wire of the net's width to the next node, or a via
abbrev pub probe_of : Design → Mesh → ℕ → ℕ → Move → ℕ → Probe
probe_of d m net node (Step dir) to = probe.Step (layer_of m node) (width_for d net) (point_of m node) (point_of m to)
probe_of d m net node (Via padstack layer) to = probe.Via padstack (point_of m node)

-- what move i of a node lays, if there is one
abbrev pub probe_at : Design → Mesh → ℕ → ℕ → ℕ → Option Probe
probe_at d m net node i = option_map (λ (w : Move × ℕ). probe_of d m net node w.0 w.1) (way d m net node i)

-- a move is open where it is there and what it lays is legal
abbrev pub IsOpen : Design → List Item → ℕ → Option Probe → Type 0
IsOpen d items net None = ⊥
IsOpen d items net (Some p) = IsLegalProbe d items net p

-- the way between two points along the axes
abbrev pub way_between : Point → Point → ℕ
way_between p q = unsigned_abs (q.x -ℤ p.x) + unsigned_abs (q.y -ℤ p.y)

-- a step costs the gap that it crosses, in nm, and a via the same everywhere; 0 where there is no move
abbrev pub move_price : Mesh → ℕ → ℕ → Move → ℕ → ℕ
move_price m via_cost node (Step dir) to = way_between (point_of m node) (point_of m to)
move_price m via_cost node (Via padstack layer) to = via_cost

abbrev pub way_price : Mesh → ℕ → ℕ → Option (Move × ℕ) → ℕ
way_price m via_cost node None = 0
way_price m via_cost node (Some w) = move_price m via_cost node w.0 w.1

-- the nodes of the lattice, and the legal moves of the net on the items
abbrev pub legal_graph : Design → Mesh → List Item → ℕ → ℕ → MoveGraph
legal_graph d m items net via_cost = record {
  count = node_count m;
  arity = way_count d m net;
  at = way d m net;
  open_at = λ node i. IsOpen d items net (probe_at d m net node i);
  priced = λ node i price. price ≡ way_price m via_cost node (way d m net node i);
}

-- a sound design, a lattice of it, one of its nets, and a price of a via
pub record CanMove (d : Design) (m : Mesh) (net via_cost : ℕ) : Type 0 where
  pub sound : IsSound d
  pub fits : FitsDesign d m
  pub net_there : net < length d.nets
  pub small_cost : via_cost ≤ 2 ^ 30

-- ys are those of the elements of xs that have P, in order
abbrev pub AreThoseOf : (ℕ → Type 0) → List ℕ → List ℕ → Type 0
AreThoseOf P [] ys = ys ≡ []
AreThoseOf P (x ∷ xs) ys = (P x × (zs : List ℕ) × (ys ≡ x ∷ zs) × AreThoseOf P xs zs) ⊎ (¬ (P x) × AreThoseOf P xs ys)
