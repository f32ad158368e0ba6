-- The fixed items, whose ids count up: edges, keepouts, placed keepouts and pins, and fixed wiring.
use Rattle.std.specs.Prelude.{◌+◌, ◌++◌, ℕ, Bool, true, not, List, [], ◌∷◌, Option, None, filter, map, slice_get}
use Rattle.std.specs.Prelude.{unwrap_or, if◌then◌else◌}
use Rattle.std.specs.List.{flat_map}
use Rattle.std.specs.Option.{option_map_or}
use Rattle.geo_kernel.specs.declared.point.Point.{Point}
use Rattle.geo_kernel.specs.declared.spine.Spine.{Spine}
use Rattle.geo_kernel.specs.declared.spine.Spine.TheVariants.{Chain, Area}
use Rattle.geo_kernel.specs.Spine.{closed}
use Rattle.pcb_model.specs.declared.item.Piece.{Piece}
use Rattle.pcb_model.specs.declared.item.Kind.{Kind}
use Rattle.pcb_model.specs.declared.item.Kind.TheVariants as kind
use Rattle.pcb_model.specs.declared.item.Metal.{Metal}
use Rattle.pcb_model.specs.declared.item.Metal.TheVariants.{Wire, Via, Pad, Ban}
use Rattle.pcb_model.specs.declared.item.Item.{Item}
use Rattle.pcb_model.specs.declared.design.Padstack.{Padstack}
use Rattle.pcb_model.specs.declared.design.FreeWire.{FreeWire}
use Rattle.pcb_model.specs.Pieces.{moved_piece, pieces_in, wire_piece, kind_of}
use Rattle.dsn_shapes.specs.declared.parts.LayerShape.{LayerShape}
use Rattle.dsn_shapes.specs.declared.parts.BanShape.{BanShape}
use Rattle.dsn_shapes.specs.declared.parts.ImagePin.{ImagePin}
use Rattle.dsn_shapes.specs.declared.parts.PinRef.{PinRef}
use Rattle.dsn_shapes.specs.declared.parts.Place.{Place}
use Rattle.dsn_shapes.specs.declared.parts.ReadWire.{ReadWire}
use Rattle.dsn_placement.specs.Copper.{ban_copper, pin_copper, stand_of}
use Rattle.dsn_design.specs.declared.parts.Parts.{Parts}
use Rattle.dsn_design.specs.Copper.{below, pieces_of}
use Rattle.dsn_design.specs.Pins.{PlacedComponent, PlacedPin, component_pins, image_bans, is_smd, layer_count}
use Rattle.dsn_design.specs.Pins.{net_of_pin, pin_number, pin_refs, placed_components}

-- a fixed item, whose id is given with all of them
abbrev pub fixed_item : Option ℕ → Kind → Metal → List Piece → Item
fixed_item net k metal pieces = record { id = 0; net = net; fixed = true; kind = k; metal = metal; pieces = pieces }

abbrev pub with_id : ℕ → Item → Item
with_id id a = record { id = id; net = a.net; fixed = a.fixed; kind = a.kind; metal = a.metal; pieces = a.pieces }

-- items whose ids count up from this one
abbrev pub numbered_from : ℕ → List Item → List Item
numbered_from id [] = []
numbered_from id (a ∷ rest) = with_id id a ∷ numbered_from (id + 1) rest

unfoldable pub numbered : List Item → List Item
numbered items = numbered_from 0 items

-- ---- edges
abbrev pub loops_of : Spine → List (List Point)
loops_of (Area loops) = loops
loops_of (Chain points) = points ∷ []

-- the edge of a loop on layers
abbrev pub edge_pieces : List ℕ → ℕ → List Point → List Piece
edge_pieces layers width loop = map (λ layer. wire_piece layer width (closed loop)) layers

-- the edge of a boundary stands on every layer
unfoldable pub edge_item : ℕ → LayerShape → Item
edge_item n s = fixed_item None kind.Area (Ban true true) (flat_map (edge_pieces (below n) s.width) (loops_of s.spine))

-- ---- keepouts
unfoldable pub ban_item : ℕ → BanShape → Item
ban_item n b = fixed_item None kind.Area (Ban b.wires b.vias) (pieces_of n b.shape)

-- a keepout of an image where its component stands
unfoldable pub placed_ban : Parts → Place → BanShape → Item
placed_ban parts p b = fixed_item None kind.Area (Ban b.wires b.vias)
    (option_map_or (pieces_of (layer_count parts))
    (ban_copper (layer_count parts) (stand_of parts.structure.flip_last p) b) [])

-- ---- pins
-- the copper of a pin
unfoldable pub pad_pieces : Parts → Place → ImagePin → List Piece
pad_pieces parts p pin = flat_map (pieces_of (layer_count parts))
    (unwrap_or (pin_copper (layer_count parts) (stand_of parts.structure.flip_last p) parts.library.stacks pin) [])

abbrev pub pad_kind : Bool → Kind
pad_kind smd = if smd then kind.Smd else kind.Pin

-- the pad of a pin of an image where its component stands: pin `number` of the design, which nets name by r
unfoldable pub pad_item : Parts → List Padstack → ℕ → PinRef → Place → ImagePin → Item
pad_item parts stacks number r p i = fixed_item (net_of_pin parts.network.nets r) (pad_kind (is_smd stacks i))
    (Pad number) (pad_pieces parts p i)

-- that of a pin of the board
abbrev pub pad_of : Parts → List Padstack → PlacedPin → Item
pad_of parts stacks q = pad_item parts stacks
    (pin_number (pin_refs parts.library parts.placing.places) q.ref) q.ref q.component.place q.image_pin

-- a placed component's keepouts and then its pads
abbrev pub component_items : Parts → List Padstack → PlacedComponent → List Item
component_items parts stacks c = map (placed_ban parts c.place) (image_bans parts.library c.place)
    ++ map (pad_of parts stacks) (component_pins parts.library c)

-- ---- wiring
-- the pieces of a wire, and those of a via of one of these padstacks
abbrev pub wiring_pieces : List Padstack → Metal → List Piece
wiring_pieces stacks (Wire layer width chain) = wire_piece layer width chain ∷ []
wiring_pieces stacks (Via padstack at) = map (moved_piece at) (pieces_in (slice_get stacks padstack))
wiring_pieces stacks (Pad pin) = []
wiring_pieces stacks (Ban wires vias) = []

unfoldable pub wiring_item : List Padstack → ReadWire → Item
wiring_item stacks w = fixed_item w.net (kind_of w.metal) w.metal (wiring_pieces stacks w.metal)

abbrev pub is_fixed : ReadWire → Bool
is_fixed w = w.fixed

unfoldable pub fixed_wiring : List Padstack → List ReadWire → List Item
fixed_wiring stacks wires = map (wiring_item stacks) (filter is_fixed wires)

-- free wiring has a net
abbrev pub free_wire : ReadWire → FreeWire
free_wire w = record { at = w.at; net = unwrap_or w.net 0; metal = w.metal }

abbrev pub is_free : ReadWire → Bool
is_free w = not w.fixed

unfoldable pub free_wiring : List ReadWire → List FreeWire
free_wiring wires = map free_wire (filter is_free wires)

-- ---- all fixed items, in the order of their ids
unfoldable pub fixed_items : Parts → List Padstack → List Item
fixed_items parts stacks = numbered (map (edge_item (layer_count parts)) parts.structure.bounds
    ++ (map (ban_item (layer_count parts)) parts.structure.bans
    ++ (flat_map (component_items parts stacks) (placed_components parts.placing.places)
    ++ fixed_wiring stacks parts.wiring.wires)))
