-- What keeps off all copper, as if no net had it.
use Rattle.std.specs.Prelude.{◌≡◌, ℕ, true, false, Some, map, List}
use Rattle.geo_kernel.specs.declared.point.Point.{Point}
use Rattle.pcb_model.specs.declared.item.Kind.TheVariants as kind
use Rattle.pcb_model.specs.declared.item.Item.{Item}
use Rattle.pcb_model.specs.declared.item.Metal.{Metal}
use Rattle.pcb_model.specs.declared.item.Probe.{Probe}
use Rattle.pcb_model.specs.declared.design.Design.{Design}
use Rattle.pcb_model.specs.Rules.{clearance_of}
use Rattle.pcb_model.specs.Pairs.{meets_wires, meets_vias}
use Rattle.pcb_model.specs.Pieces.{pieces_of, metal_of, kind_of, moved_piece, padstack_pieces, wire_piece}
use Rattle.pcb_model.specs.Pairs.{KeepsFrom, PiecesKeep, PiecesTouch, is_compared}
use Rattle.move_maps.specs.Groups.{AreAlike}

-- an item that a via of the group may not touch: an smd pad of one of its nets
pub record IsOwnPad (d : Design) (g : ℕ) (b : Item) : Type 0 where
  pub smd : b.kind ≡ kind.Smd
  pub net : ℕ
  pub net_is : b.net ≡ Some net
  pub alike : AreAlike d g net

-- copper of the group's class keeps its clearance from b, whatever net b has
abbrev pub KeepsForeign : Design → ℕ → Metal → Item → Type 0
KeepsForeign d g m b = is_compared m b.metal ≡ true
    → PiecesKeep (clearance_of d (Some g) (kind_of m) b.net b.kind) (pieces_of d m) b.pieces

-- a via at a point doesn't touch an smd pad of the group, unless the design allows it
abbrev pub StaysOffPad : Design → ℕ → ℕ → Point → Item → Type 0
StaysOffPad d g padstack at b = d.via_at_smd ≡ false → IsOwnPad d g b
    → ¬ (PiecesTouch (map (moved_piece at) (padstack_pieces d padstack)) b.pieces)

-- what the probe lays keeps the clearance of the group's class from b, whatever net b has; a via doesn't touch an smd
-- pad of the group
pub record IsClearOf (d : Design) (g : ℕ) (p : Probe) (b : Item) : Type 0 where
  pub keep : KeepsForeign d g (metal_of p) b
  pub stay_off : d.via_at_smd ≡ false → kind_of (metal_of p) ≡ kind.Via → IsOwnPad d g b
      → ¬ (PiecesTouch (pieces_of d (metal_of p)) b.pieces)

-- a wire of these points keeps a clearance from b, if that is compared with wires
abbrev pub WireKeeps : ℕ → ℕ → ℕ → List Point → Item → Type 0
WireKeeps c layer width points b = meets_wires b.metal ≡ true → KeepsFrom c b.pieces (wire_piece layer width points)

-- a via of the padstack at a point keeps it, if b is compared with vias
abbrev pub ViaKeeps : Design → ℕ → ℕ → Point → Item → Type 0
ViaKeeps d c padstack at b = meets_vias b.metal ≡ true
    → PiecesKeep c (map (moved_piece at) (padstack_pieces d padstack)) b.pieces
