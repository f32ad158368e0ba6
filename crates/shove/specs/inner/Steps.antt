-- Steps of a shove: the next line, the moved points of a run, and the items that are touched.
use Rattle.std.specs.Prelude.{◌≡◌, ◌≢◌, ℕ, ℤ, ◌<◌, Bool, List, Contains, Option, Some, None}
use Rattle.geo_kernel.specs.declared.point.Point.{Point}
use Rattle.pcb_model.specs.declared.item.Item.{Item}
use Rattle.pcb_model.specs.Pairs.{AreTouching}
use Rattle.route_lattice.specs.Mesh.{Mesh}
use Rattle.shove.specs.Shoves.{IsNextLine, MovesRun}

-- the next line, or none where there is none
abbrev pub FindsLine : Bool → List ℤ → ℤ → Option ℤ → Type 0
FindsLine up lines at (Some line) = IsNextLine up lines at line
FindsLine up lines at None = (line : ℤ) → ¬ (IsNextLine up lines at line)

-- the moved points of a run, or none where it doesn't move
abbrev pub FindsRun : Mesh → Bool → Point → Point → Option (Point × Point) → Type 0
FindsRun m up a b (Some to) = MovesRun m up a b to.0 to.1
FindsRun m up a b None = (p q : Point) → ¬ (MovesRun m up a b p q)

-- the new item touches all items with ids below `from` that the old one touched
pub record TouchesBelow (items : List Item) (old new : Item) (from : ℕ) : Type 0 where
  pub each : (b : Item) → Contains items b → b.id ≢ old.id → AreTouching old b → b.id < from → AreTouching new b

-- the new item touches all items that the old one touched
pub record TouchesAll (items : List Item) (old new : Item) : Type 0 where
  pub each : (b : Item) → Contains items b → b.id ≢ old.id → AreTouching old b → AreTouching new b
