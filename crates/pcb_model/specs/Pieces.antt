-- The pieces of copper that wires, vias and probes stand for.
use Rattle.std.specs.Prelude.{ℕ, Bool, false, List, [], ◌∷◌, map, Option, Some, None, slice_get}
use Rattle.geo_kernel.specs.declared.point.Point.{Point}
use Rattle.geo_kernel.specs.declared.spine.Spine.TheVariants.{Chain}
use Rattle.geo_kernel.specs.Moved.{moved_spine}
use Rattle.pcb_model.specs.declared.item.Kind.{Kind}
use Rattle.pcb_model.specs.declared.item.Kind.TheVariants as kind
use Rattle.pcb_model.specs.declared.item.Piece.{Piece}
use Rattle.pcb_model.specs.declared.item.Metal.{Metal}
use Rattle.pcb_model.specs.declared.item.Metal.TheVariants as metal
use Rattle.pcb_model.specs.declared.item.Probe.{Probe}
use Rattle.pcb_model.specs.declared.item.Probe.TheVariants as probe
use Rattle.pcb_model.specs.declared.item.Item.{Item}
use Rattle.pcb_model.specs.declared.design.Padstack.{Padstack}
use Rattle.pcb_model.specs.declared.design.Design.{Design}

abbrev pub moved_piece : Point → Piece → Piece
moved_piece by p = record { layer = p.layer; spine = moved_spine by p.spine; width = p.width }

-- the one piece of a wire
abbrev pub wire_piece : ℕ → ℕ → List Point → Piece
wire_piece layer width chain = record { layer = layer; spine = Chain chain; width = width }

abbrev pub pieces_in : Option Padstack → List Piece
pieces_in None = []
pieces_in (Some ps) = ps.pieces

-- the pieces of a design's padstack, about the origin
abbrev pub padstack_pieces : Design → ℕ → List Piece
padstack_pieces d padstack = pieces_in (slice_get d.padstacks padstack)

-- the pieces of a wire are its chain, those of a via its padstack's at the via's place
abbrev pub pieces_of : Design → Metal → List Piece
pieces_of d (metal.Wire layer width chain) = wire_piece layer width chain ∷ []
pieces_of d (metal.Via padstack at) = map (moved_piece at) (padstack_pieces d padstack)
pieces_of d (metal.Pad pin) = []
pieces_of d (metal.Ban wires vias) = []

abbrev pub kind_of : Metal → Kind
kind_of (metal.Wire layer width chain) = kind.Wire
kind_of (metal.Via padstack at) = kind.Via
kind_of (metal.Pad pin) = kind.Pin
kind_of (metal.Ban wires vias) = kind.Area

-- the item of a wire or a via
abbrev pub item_of : Design → ℕ → Option ℕ → Bool → Metal → Item
item_of d id net fixed m =
    record { id = id; net = net; fixed = fixed; kind = kind_of m; metal = m; pieces = pieces_of d m }

-- a disc is a wire of one point, a step a wire of two
abbrev pub metal_of : Probe → Metal
metal_of (probe.Disc layer width at) = metal.Wire layer width (at ∷ [])
metal_of (probe.Step layer width a b) = metal.Wire layer width (a ∷ b ∷ [])
metal_of (probe.Via padstack at) = metal.Via padstack at

-- the routed item of a net that a probe stands for
abbrev pub probe_item : Design → ℕ → Probe → Item
probe_item d net p = item_of d 0 (Some net) false (metal_of p)
