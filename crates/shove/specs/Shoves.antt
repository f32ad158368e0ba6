-- A wire with one run moved to the next line of the lattice.
use Rattle.std.specs.Prelude.{◌≡◌, ◌≢◌, ◌⊎◌, ℕ, ℤ, ◌+◌, ◌<◌, ◌<ℤ◌, ◌≤ℤ◌, Bool, true, false, ◌&&◌, cond, List, [], ◌∷◌}
use Rattle.std.specs.Prelude.{◌++◌, take, drop, Contains, Option, Some, None, slice_get}
use Rattle.std.specs.Ordering.{int_eq}
use Rattle.geo_kernel.specs.declared.point.Point.{Point}
use Rattle.pcb_model.specs.declared.item.Metal.{Metal}
use Rattle.pcb_model.specs.declared.item.Metal.TheVariants as metal
use Rattle.pcb_model.specs.declared.item.Item.{Item}
use Rattle.pcb_model.specs.declared.design.Design.{Design}
use Rattle.pcb_model.specs.Pieces.{item_of}
use Rattle.pcb_model.specs.Pairs.{Agrees, AreTouching}
use Rattle.pcb_model.specs.Board.{AreInside}
use Rattle.route_lattice.specs.Mesh.{Mesh}
use Rattle.shove.specs.declared.run.Reshape.{Reshape}

-- ---- lines
-- of the lines above a coordinate the least
pub record IsNextAbove (lines : List ℤ) (at line : ℤ) : Type 0 where
  pub there : Contains lines line
  pub above : at <ℤ line
  pub next : (z : ℤ) → Contains lines z → at <ℤ z → line ≤ℤ z

-- of those below it the greatest
pub record IsNextBelow (lines : List ℤ) (at line : ℤ) : Type 0 where
  pub there : Contains lines line
  pub below : line <ℤ at
  pub next : (z : ℤ) → Contains lines z → z <ℤ at → z ≤ℤ line

abbrev pub IsNextLine : Bool → List ℤ → ℤ → ℤ → Type 0
IsNextLine true lines at line = IsNextAbove lines at line
IsNextLine false lines at line = IsNextBelow lines at line

-- ---- runs
-- a run along x, whose points go to the next line of y
pub record MovesAcross (m : Mesh) (up : Bool) (a b to_a to_b : Point) : Type 0 where
  pub one_y : a.y ≡ b.y
  pub apart : a.x ≢ b.x
  pub line : ℤ
  pub next : IsNextLine up m.ys a.y line
  pub to_a_is : to_a ≡ record { x = a.x; y = line }
  pub to_b_is : to_b ≡ record { x = b.x; y = line }

-- a run along y, whose points go to the next line of x
pub record MovesUpright (m : Mesh) (up : Bool) (a b to_a to_b : Point) : Type 0 where
  pub one_x : a.x ≡ b.x
  pub apart : a.y ≢ b.y
  pub line : ℤ
  pub next : IsNextLine up m.xs a.x line
  pub to_a_is : to_a ≡ record { x = line; y = a.y }
  pub to_b_is : to_b ≡ record { x = line; y = b.y }

-- the run of two points that differ in just one coordinate goes to the next line at greater coordinate, or at lesser
abbrev pub MovesRun : Mesh → Bool → Point → Point → Point → Point → Type 0
MovesRun m up a b to_a to_b = MovesAcross m up a b to_a to_b ⊎ MovesUpright m up a b to_a to_b

-- ---- chains
abbrev pub is_same_point : Point → Point → Bool
is_same_point p q = int_eq p.x q.x && int_eq p.y q.y

-- the points after one, without each that is equal to the one before it
abbrev pub fresh_after : Point → List Point → List Point
fresh_after p [] = []
fresh_after p (q ∷ qs) = cond (is_same_point p q) (fresh_after q qs) (q ∷ fresh_after q qs)

abbrev pub without_repeats : List Point → List Point
without_repeats [] = []
without_repeats (p ∷ ps) = p ∷ fresh_after p ps

-- the chain with two points put in between point r and the next one
abbrev pub with_points : List Point → ℕ → Point → Point → List Point
with_points chain r p q = take (r + 1) chain ++ p ∷ q ∷ drop (r + 1) chain

-- the chain with run r moved to the next line
pub record IsShovedChain (m : Mesh) (chain : List Point) (r : ℕ) (up : Bool) (shoved : List Point) : Type 0 where
  pub a : Point
  pub a_is : slice_get chain r ≡ Some a
  pub b : Point
  pub b_is : slice_get chain (r + 1) ≡ Some b
  pub to_a : Point
  pub to_b : Point
  pub moves : MovesRun m up a b to_a to_b
  pub shoved_is : shoved ≡ without_repeats (with_points chain r to_a to_b)

-- ---- wires
abbrev pub chain_of : Metal → List Point
chain_of (metal.Wire layer width chain) = chain
chain_of m = []

abbrev pub IsWire : Metal → Type 0
IsWire (metal.Wire layer width chain) = Unit {0}
IsWire (metal.Via padstack at) = ⊥
IsWire (metal.Pad pin) = ⊥
IsWire (metal.Ban wires vias) = ⊥

-- a wire with other points
abbrev pub with_chain : List Point → Metal → Metal
with_chain points (metal.Wire layer width chain) = metal.Wire layer width points
with_chain points m = m

-- the item with another chain and another id
abbrev pub reshaped : Design → ℕ → List Point → Item → Item
reshaped d id points a = item_of d id a.net false (with_chain points a.metal)

-- in place of an item the new one agrees with all others, lies inside every boundary, and touches all items of its
-- net that the old one touched
pub record CanReplace (d : Design) (items : List Item) (old new : Item) : Type 0 where
  pub agrees : (b : Item) → Contains items b → b.id ≢ old.id → Agrees d new b
  pub inside : AreInside d.bounds new.pieces
  pub touches : (b : Item) → Contains items b → b.id ≢ old.id → AreTouching old b → AreTouching new b

-- the chain is that of the wire with run r moved, and may take the wire's place
pub record IsShove (d : Design) (m : Mesh) (items : List Item) (a : Item) (r : ℕ) (up : Bool)
    (chain : List Point) : Type 0 where
  pub shoved : IsShovedChain m (chain_of a.metal) r up chain
  pub fits : CanReplace d items a (reshaped d a.id chain a)

-- such a chain, or none where there is none
abbrev pub Shoves : Design → Mesh → List Item → Item → ℕ → Bool → Option Reshape → Type 0
Shoves d m items a r up (Some s) = IsShove d m items a r up s.chain
Shoves d m items a r up None = (chain : List Point) → ¬ (IsShove d m items a r up chain)
