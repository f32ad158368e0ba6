-- Which padstacks may be vias: `IsUsable` by the layers and the pieces that an entry at a time is compared with.
use Rattle.std.specs.Prelude.{◌≡◌, ◌≢◌, ◌↔◌, ℕ, Bool, List, [], ◌∷◌, Any, IsTrue, map}
use Rattle.std.specs.List.{zip}
use Rattle.geo_kernel.specs.declared.spine.Spine.{Spine}
use Rattle.geo_kernel.specs.declared.spine.Spine.TheVariants.{Chain}
use Rattle.pcb_model.specs.declared.item.Piece.{Piece}
use Rattle.pcb_model.specs.declared.design.Padstack.{Padstack}
use Rattle.pcb_model.specs.Sound.{Covers, IsUsable, origin}
use Rattle.dsn_shapes.specs.declared.parts.Stack.{Stack}
use Rattle.dsn_design.specs.Copper.{stack_pieces}

-- the origin as a chain of one point
abbrev pub origin_spine : Spine
origin_spine = Chain (origin ∷ [])

-- the piece lies on this layer and has the origin in its copper
abbrev pub CoversOn : ℕ → Piece → Type 0
CoversOn layer r = (r.layer ≡ layer) × Covers origin r

-- some of these pieces does so on the layer of this piece
abbrev pub IsCovered : List Piece → Piece → Type 0
IsCovered all p = Any (CoversOn p.layer) all

-- the piece lies on another layer
abbrev pub IsElsewhere : ℕ → Piece → Type 0
IsElsewhere layer r = layer ≢ r.layer

-- some of these pieces lies on another layer than this piece
abbrev pub HasOther : List Piece → Piece → Type 0
HasOther all p = Any (IsElsewhere p.layer) all

-- ---- padstacks, where a Bool says of each whether it may be a via
abbrev pub padstack_of : ℕ → (Bool × Stack) → Padstack
padstack_of n e = record { name = e.1.name; pieces = stack_pieces n e.1; usable = e.0 }

unfoldable pub padstacks_of : ℕ → List Bool → List Stack → List Padstack
padstacks_of n usable stacks = map (padstack_of n) (zip usable stacks)

abbrev pub usables : List Padstack → List Bool
usables ps = map (λ (p : Padstack). p.usable) ps

-- each Bool is true exactly where its padstack is usable
abbrev pub AreUsable : ℕ → List Bool → List Stack → Type 0
AreUsable n [] [] = Unit {0}
AreUsable n (u ∷ us) (s ∷ ss) = (IsTrue u ↔ IsUsable (stack_pieces n s)) × AreUsable n us ss
AreUsable n [] (s ∷ ss) = ⊥
AreUsable n (u ∷ us) [] = ⊥
