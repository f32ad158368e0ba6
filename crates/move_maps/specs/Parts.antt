-- An item of chains, link by link.
use Rattle.std.specs.Prelude.{◌≡◌, List, [], ◌∷◌, map, flat_map, All}
use Rattle.geo_kernel.specs.declared.point.Point.{Point}
use Rattle.geo_kernel.specs.declared.spine.Spine.TheVariants.{Chain}
use Rattle.geo_kernel.specs.Spine.{Segment, spine_segments}
use Rattle.pcb_model.specs.declared.item.Item.{Item}
use Rattle.pcb_model.specs.declared.item.Kind.TheVariants as kind
use Rattle.pcb_model.specs.declared.item.Metal.TheVariants.{Ban}
use Rattle.pcb_model.specs.declared.item.Piece.{Piece}
use Rattle.pcb_model.specs.Pairs.{meets_wires, meets_vias}
use Rattle.pcb_model.specs.Pieces.{wire_piece}

-- a chain of two points or more
pub record IsString (q : Piece) : Type 0 where
  pub first : Point
  pub second : Point
  pub rest : List Point
  pub is : q.spine ≡ Chain (first ∷ second ∷ rest)

-- the item is no smd pad, and each of its pieces is such a chain
pub record IsStrung (b : Item) : Type 0 where
  pub not_smd : ¬ (b.kind ≡ kind.Smd)
  pub strings : All IsString b.pieces

-- one link of a piece for all pieces of the item: a ban of what the item is compared with
abbrev pub part : Item → Piece → Segment → Item
part b q h = record {
  id = b.id;
  net = b.net;
  fixed = b.fixed;
  kind = b.kind;
  metal = Ban (meets_wires b.metal) (meets_vias b.metal);
  pieces = wire_piece q.layer q.width (h.from ∷ h.to ∷ []) ∷ [];
}

-- the parts of a piece
abbrev pub parts_by : Item → Piece → List Item
parts_by b q = map (part b q) (spine_segments q.spine)

-- those of all pieces
abbrev pub parts : Item → List Item
parts b = flat_map (parts_by b) b.pieces
