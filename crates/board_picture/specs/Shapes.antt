-- What is drawn of the pieces of copper: their spines, with the widths that they have and round ends.
use Rattle.std.specs.Prelude.{ℕ, ◌/◌, ◌==◌, Bool, true, false, not, ◌&&◌, ◌||◌, if◌then◌else◌, List, [], ◌∷◌, ◌++◌}
use Rattle.std.specs.Prelude.{flat_map, codes, slice_get}
use Rattle.std.specs.List.{list_any}
use Rattle.std.specs.Option.{option_map_or}
use Rattle.geo_kernel.specs.declared.point.Point.{Point}
use Rattle.geo_kernel.specs.declared.spine.Spine.{Spine}
use Rattle.geo_kernel.specs.declared.spine.Spine.TheVariants.{Chain, Area}
use Rattle.pcb_model.specs.declared.item.Piece.{Piece}
use Rattle.pcb_model.specs.declared.item.Metal.{Metal}
use Rattle.pcb_model.specs.declared.item.Metal.TheVariants.{Wire, Via, Pad, Ban}
use Rattle.pcb_model.specs.declared.item.Item.{Item}
use Rattle.pcb_model.specs.declared.design.Pin.{Pin}
use Rattle.pcb_model.specs.declared.design.Design.{Design}
use Rattle.board_picture.specs.declared.shapes.Hatch.{Hatch}
use Rattle.board_picture.specs.declared.shapes.Hatch.TheVariants.{Wires, Vias, Both}
use Rattle.board_picture.specs.Words.{length_word, point_words}
use Rattle.board_picture.specs.Sheet.{narrow_side}

-- ---- pieces

unfoldable pub loop_words : List Point → List ℕ
loop_words points = codes "M" ++ flat_map point_words points ++ codes "z"

-- a chain ends with a line of no length, so that a lone point is a dot
unfoldable pub spine_words : Spine → List ℕ
spine_words (Chain points) = codes "\" fill=\"none\" d=\"M" ++ flat_map point_words points ++ codes "h0\"/>\n"
spine_words (Area loops) = codes "\" d=\"" ++ flat_map loop_words loops ++ codes "\"/>\n"

unfoldable pub piece_shape : Piece → List ℕ
piece_shape c = codes "<path stroke-width=\"" ++ length_word c.width ++ spine_words c.spine

-- ---- items, by what they are

abbrev pub is_wire : Metal → Bool
is_wire (Wire layer width chain) = true
is_wire (Via padstack at) = false
is_wire (Pad pin) = false
is_wire (Ban wires vias) = false

abbrev pub is_via : Metal → Bool
is_via (Wire layer width chain) = false
is_via (Via padstack at) = true
is_via (Pad pin) = false
is_via (Ban wires vias) = false

abbrev pub is_keepout : Metal → Bool
is_keepout (Wire layer width chain) = false
is_keepout (Via padstack at) = false
is_keepout (Pad pin) = false
is_keepout (Ban wires vias) = true

-- it bans just this, where a keepout says of wires and of vias whether it bans them
abbrev pub bans : Hatch → Bool → Bool → Bool
bans Wires wires vias = wires && not vias
bans Vias wires vias = not wires && vias
bans Both wires vias = wires && vias

abbrev pub is_hatched : Hatch → Metal → Bool
is_hatched hatch (Wire layer width chain) = false
is_hatched hatch (Via padstack at) = false
is_hatched hatch (Pad pin) = false
is_hatched hatch (Ban wires vias) = bans hatch wires vias

-- pads and vias
abbrev pub is_land : Metal → Bool
is_land metal = not (is_wire metal) && not (is_keepout metal)

-- some piece lies on another layer
abbrev pub leaves_layer : ℕ → List Piece → Bool
leaves_layer layer pieces = list_any (λ (p : Piece). not (p.layer == layer)) pieces

-- copper on two layers or more
abbrev pub spans_layers : List Piece → Bool
spans_layers [] = false
spans_layers (c ∷ rest) = leaves_layer c.layer rest

-- a via or pad with copper on two layers or more
abbrev pub is_through : Item → Bool
is_through a = is_land a.metal && spans_layers a.pieces

abbrev pub is_area : Spine → Bool
is_area (Chain points) = false
is_area (Area loops) = true

-- the piece isn't a line of width 0, as the board's edge mostly is
abbrev pub has_breadth : Piece → Bool
has_breadth c = is_area c.spine || not (c.width == 0)

abbrev pub have_breadth : List Piece → Bool
have_breadth pieces = list_any has_breadth pieces

-- ---- what is drawn of an item

-- the piece, if it lies on the layer
abbrev pub shape_on : ℕ → Piece → List ℕ
shape_on layer c = if c.layer == layer then piece_shape c else []

abbrev pub shapes_on : ℕ → List Piece → List ℕ
shapes_on layer pieces = flat_map (shape_on layer) pieces

abbrev pub wire_on : ℕ → Item → List ℕ
wire_on layer a = if is_wire a.metal then shapes_on layer a.pieces else []

-- of a pad or via on one layer alone
abbrev pub land_on : ℕ → Item → List ℕ
land_on layer a = if is_land a.metal && not (is_through a) then shapes_on layer a.pieces else []

-- of one on several layers, its pieces on all of them
abbrev pub through_shapes : Item → List ℕ
through_shapes a = if is_through a then flat_map piece_shape a.pieces else []

abbrev pub broad_shape : Piece → List ℕ
broad_shape c = if has_breadth c then piece_shape c else []

abbrev pub keepout_shapes : Hatch → Item → List ℕ
keepout_shapes hatch a = if is_hatched hatch a.metal then flat_map broad_shape a.pieces else []

-- ---- holes

-- how wide a chain is, or the shorter side of an area's box
abbrev pub breadth : ℕ → Spine → ℕ
breadth width (Chain points) = width
breadth width (Area loops) = narrow_side loops

-- two fifths of the first piece's breadth are between a hole's sides
abbrev pub hole_radius : List Piece → ℕ
hole_radius [] = 0
hole_radius (c ∷ rest) = breadth c.width c.spine / 5

unfoldable pub hole_dot : ℕ → Point → List ℕ
hole_dot radius p = codes "<circle r=\"" ++ length_word radius ++ codes "\" transform=\"translate(" ++ point_words p
    ++ codes ")\"/>\n"

-- at the place of a via, or the centre of a pin
abbrev pub hole_at : Design → ℕ → Metal → List ℕ
hole_at d radius (Wire layer width chain) = []
hole_at d radius (Via padstack at) = hole_dot radius at
hole_at d radius (Pad pin) = option_map_or (λ (p : Pin). hole_dot radius p.centre) (slice_get d.pins pin) []
hole_at d radius (Ban wires vias) = []

abbrev pub hole_of : Design → Item → List ℕ
hole_of d a = if is_through a then hole_at d (hole_radius a.pieces) a.metal else []
