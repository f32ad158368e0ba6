-- What a wiring keeps to where no refusal of it stands.
use Rattle.std.specs.Prelude.{◌≡◌, ◌<◌, ◌≤◌, ◌^◌, false, length, slice_get, All, IfSome, IsSome}
use Rattle.std.specs.Option.{IsSomeAnd}
use Rattle.geo_kernel.specs.declared.point.Point.{Point}
use Rattle.geo_kernel.specs.Plane.{IsWithin}
use Rattle.geo_kernel.specs.Spine.{IsSpineWithin}
use Rattle.geo_kernel.specs.Moved.{moved_spine}
use Rattle.pcb_model.specs.declared.item.Metal.{Metal}
use Rattle.pcb_model.specs.declared.item.Metal.TheVariants.{Wire, Via, Pad, Ban}
use Rattle.dsn_shapes.specs.declared.parts.LayerShape.{LayerShape}
use Rattle.dsn_shapes.specs.declared.parts.Stack.{Stack}
use Rattle.dsn_shapes.specs.declared.parts.Structure.{Structure}
use Rattle.dsn_shapes.specs.declared.parts.Library.{Library}
use Rattle.dsn_shapes.specs.declared.parts.Network.{Network}
use Rattle.dsn_shapes.specs.declared.parts.ReadWire.{ReadWire}
use Rattle.dsn_shapes.specs.declared.parts.Wiring.{Wiring}
use Rattle.pcb_model.specs.declared.limits.TheConstants.{MOST_ITEMS}

-- at this place the padstack's vertices have coordinates of at most 2 ^ 29 in absolute value
abbrev pub IsStackNear : Point → Stack → Type 0
IsStackNear at s = All (λ (shape : LayerShape). IsSpineWithin (2 ^ 29) (moved_spine at shape.spine)) s.shapes

-- a wire of at least two vertices on a layer of the structure, or a via of a padstack of the library
abbrev pub IsCopperSound : Structure → Library → Metal → Type 0
IsCopperSound st lib (Wire layer width chain) =
    (layer < length st.layers) × (width ≤ 2 ^ 28) × (2 ≤ length chain) × All (IsWithin (2 ^ 29)) chain
IsCopperSound st lib (Via stack at) = IsWithin (2 ^ 29) at × IsSomeAnd (slice_get lib.stacks stack) (IsStackNear at)
IsCopperSound st lib (Pad pin) = ⊥
IsCopperSound st lib (Ban wires vias) = ⊥

-- its net is one of the network, and one that isn't fixed has a net
pub record IsWireSound (st : Structure) (lib : Library) (network : Network) (w : ReadWire) : Type 0 where
  pub net_in_range : IfSome w.net (λ n. n < length network.nets)
  pub net_there : w.fixed ≡ false → IsSome w.net
  pub copper : IsCopperSound st lib w.metal

-- such wires and vias, together at most as many as a design may have items
pub record IsWiringSound (st : Structure) (lib : Library) (network : Network) (wiring : Wiring) : Type 0 where
  pub few : length wiring.wires ≤ MOST_ITEMS
  pub wires : All (IsWireSound st lib network) wiring.wires

-- so many padstacks that an index of 32 bits is the place itself
pub record HasFewStacks (lib : Library) : Type 0 where
  pub few : length lib.stacks ≤ 2 ^ 32
