-- What the items of a session keep to.
use Rattle.std.specs.Prelude.{◌<◌, ◌≤◌, ◌^◌, length, slice_get, All}
use Rattle.std.specs.Option.{IsSomeAnd}
use Rattle.geo_kernel.specs.declared.point.Point.{Point}
use Rattle.geo_kernel.specs.Plane.{IsWithin}
use Rattle.geo_kernel.specs.Spine.{IsSpineWithin}
use Rattle.geo_kernel.specs.Moved.{moved_spine}
use Rattle.pcb_model.specs.declared.item.Metal.{Metal}
use Rattle.pcb_model.specs.declared.item.Metal.TheVariants.{Wire, Via, Pad, Ban}
use Rattle.pcb_model.specs.declared.item.Piece.{Piece}
use Rattle.pcb_model.specs.declared.design.Padstack.{Padstack}
use Rattle.pcb_model.specs.declared.design.Design.{Design}
use Rattle.pcb_model.specs.Sound.{IsNetOf}
use Rattle.ses_reader.specs.declared.item.SesItem.{SesItem}

-- at this place the padstack's vertices have coordinates of at most 2 ^ 29 in absolute value
abbrev pub IsStackNear : Point → Padstack → Type 0
IsStackNear at s = All (λ (c : Piece). IsSpineWithin (2 ^ 29) (moved_spine at c.spine)) s.pieces

-- a wire of at least two points on a layer of the design, or a via of one of its padstacks
abbrev pub IsCopperSound : Design → Metal → Type 0
IsCopperSound d (Wire layer width chain) = (layer < length d.layers) × (width ≤ 2 ^ 28) × (2 ≤ length chain)
    × All (IsWithin (2 ^ 29)) chain
IsCopperSound d (Via padstack at) = IsWithin (2 ^ 29) at × IsSomeAnd (slice_get d.padstacks padstack) (IsStackNear at)
IsCopperSound d (Pad pin) = ⊥
IsCopperSound d (Ban wires vias) = ⊥

-- such copper, of a net of the design
pub record IsItemSound (d : Design) (x : SesItem) : Type 0 where
  pub net_in_range : IsNetOf d x.net
  pub copper : IsCopperSound d x.metal
