-- What is looked up once for all moves of a group that an item may shut.
use Rattle.std.specs.Prelude.{◌≡◌, ℕ, ◌≤◌, ◌⊎◌, ◌^◌, ◌≤ℤ◌, [], ◌∷◌, Some}
use Rattle.geo_kernel.specs.declared.point.Point.{Point}
use Rattle.geo_kernel.specs.declared.point.Rect4.{Rect4}
use Rattle.pcb_model.specs.declared.item.Kind.TheVariants as kind
use Rattle.pcb_model.specs.declared.item.Item.{Item}
use Rattle.pcb_model.specs.declared.design.Design.{Design}
use Rattle.pcb_model.specs.Bounds.{IsFit}
use Rattle.pcb_model.specs.Pieces.{wire_piece}
use Rattle.pcb_model.specs.Rules.{clearance_of, width_for}
use Rattle.move_maps.specs.declared.margins.Margins.{Margins}
use Rattle.move_maps.specs.Clear.{WireKeeps}

-- both points are beyond one side of the box, or on it
abbrev pub IsBeyond : Rect4 → Point → Point → Type 0
IsBeyond r p q = (((p.x ≤ℤ r.x0) × (q.x ≤ℤ r.x0)) ⊎ ((r.x1 ≤ℤ p.x) × (r.x1 ≤ℤ q.x)))
    ⊎ (((p.y ≤ℤ r.y0) × (q.y ≤ℤ r.y0)) ⊎ ((r.y1 ≤ℤ p.y) × (r.y1 ≤ℤ q.y)))

-- wires of two points beyond one side of the box keep their clearance from the item
pub record IsFence (b : Item) (s : Margins) : Type 0 where
  pub within : s.wires ≤ 2 ^ 28
  pub far : (layer : ℕ) (p q : Point) → IsFit (wire_piece layer s.width (p ∷ q ∷ [])) → IsBeyond s.near p q
      → WireKeeps s.wires layer s.width (p ∷ q ∷ []) b

-- the width of the group's wires, and what clearances its wires and vias keep from the item
pub record AreMargins (d : Design) (g : ℕ) (b : Item) (s : Margins) : Type 0 where
  pub width : s.width ≡ width_for d g
  pub wires : s.wires ≡ clearance_of d (Some g) kind.Wire b.net b.kind
  pub vias : s.vias ≡ clearance_of d (Some g) kind.Via b.net b.kind
  pub fence : IsFence b s

-- no wire from the point keeps the clearance
pub record ShutsSteps (c layer width : ℕ) (at : Point) (b : Item) : Type 0 where
  pub each : (q : Point) → ¬ (WireKeeps c layer width (at ∷ q ∷ []) b)
