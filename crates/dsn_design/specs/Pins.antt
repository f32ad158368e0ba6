-- Placed components and their pins: each has a number, which is its place in a list.
use Rattle.std.specs.Prelude.{◌==◌, ℕ, Bool, false, List, [], ◌∷◌, Option, filter, is_some, length, map, slice_get}
use Rattle.std.specs.Prelude.{unwrap_or}
use Rattle.std.specs.List.{enumerate_from, flat_map, list_all, position_from}
use Rattle.std.specs.Option.{option_map, option_map_or}
use Rattle.geo_kernel.specs.declared.point.Point.{Point}
use Rattle.pcb_model.specs.declared.item.Piece.{Piece}
use Rattle.pcb_model.specs.declared.design.Component.{Component}
use Rattle.pcb_model.specs.declared.design.Padstack.{Padstack}
use Rattle.pcb_model.specs.declared.design.Pin.{Pin}
use Rattle.pcb_model.specs.Sound.{origin}
use Rattle.dsn_shapes.specs.declared.parts.Library.{Library}
use Rattle.dsn_shapes.specs.declared.parts.Image.{Image}
use Rattle.dsn_shapes.specs.declared.parts.ImagePin.{ImagePin}
use Rattle.dsn_shapes.specs.declared.parts.BanShape.{BanShape}
use Rattle.dsn_shapes.specs.declared.parts.Place.{Place}
use Rattle.dsn_shapes.specs.declared.parts.PinRef.{PinRef}
use Rattle.dsn_shapes.specs.declared.parts.ReadNet.{ReadNet}
use Rattle.dsn_placement.specs.Copper.{pin_centre, stand_of}
use Rattle.dsn_network.specs.Nets.{first_net, is_pin}
use Rattle.dsn_network.specs.Owners.{pins_of}
use Rattle.dsn_shapes.specs.Names.{place_index}
use Rattle.dsn_design.specs.declared.parts.Parts.{Parts}

abbrev pub layer_count : Parts → ℕ
layer_count parts = length parts.structure.layers

-- ---- components
abbrev pub is_placed : Place → Bool
is_placed p = is_some p.at

abbrev pub image_name : Library → Place → List ℕ
image_name lib p = option_map_or (λ (i : Image). i.name) (slice_get lib.images p.image) []

abbrev pub image_pins : Library → Place → List ImagePin
image_pins lib p = option_map_or (λ (i : Image). i.pins) (slice_get lib.images p.image) []

abbrev pub image_bans : Library → Place → List BanShape
image_bans lib p = option_map_or (λ (i : Image). i.bans) (slice_get lib.images p.image) []

abbrev pub component_of : Library → Place → Component
component_of lib p = record {
  name = p.name;
  image = image_name lib p;
  at = unwrap_or p.at origin;
  back = p.back;
  microdegrees = p.angle.microdegrees;
}

-- a component that has coordinates: its number among those, its number in the placement, and its place
pub record PlacedComponent : Type 0 where
  pub index : ℕ
  pub number : ℕ
  pub place : Place

abbrev pub placed_as : ℕ × (ℕ × Place) → PlacedComponent
placed_as e = record { index = e.0; number = e.1.0; place = e.1.1 }

abbrev pub has_place : ℕ × Place → Bool
has_place e = is_placed e.1

-- those of a placement, in its order
unfoldable pub placed_components : List Place → List PlacedComponent
placed_components places = map placed_as (enumerate_from 0 (filter has_place (enumerate_from 0 places)))

unfoldable pub components_of : Library → List Place → List Component
components_of lib places = map (λ (c : PlacedComponent). component_of lib c.place) (placed_components places)

-- ---- pins
-- component and pin, both by number: by these nets name a pin
abbrev pub pin_ref : ℕ → ℕ → PinRef
pin_ref place pin = record { place = place; pin = pin }

-- a pin of a placed component, and its pin of the image
pub record PlacedPin : Type 0 where
  pub component : PlacedComponent
  pub ref : PinRef
  pub image_pin : ImagePin

abbrev pub placed_pin : PlacedComponent → ℕ × ImagePin → PlacedPin
placed_pin c e = record { component = c; ref = pin_ref c.number e.0; image_pin = e.1 }

-- the pins of a component, in the order of its image
abbrev pub component_pins : Library → PlacedComponent → List PlacedPin
component_pins lib c = map (placed_pin c) (enumerate_from 0 (image_pins lib c.place))

-- the pins of a board, component by component
unfoldable pub board_pins : Library → List Place → List PlacedPin
board_pins lib places = flat_map (component_pins lib) (placed_components places)

unfoldable pub pin_refs : Library → List Place → List PinRef
pin_refs lib places = map (λ (q : PlacedPin). q.ref) (board_pins lib places)

-- the number of a pin is its place among these, which are those of the board
abbrev pub pin_number : List PinRef → PinRef → ℕ
pin_number refs r = unwrap_or (position_from (is_pin r) 0 refs) 0

-- ---- a pin of a design
-- the net that names the pin
unfoldable pub net_of_pin : List ReadNet → PinRef → Option ℕ
net_of_pin nets r = option_map place_index (first_net r (pins_of nets))

unfoldable pub centre_of : Bool → Place → ImagePin → Point
centre_of flip_last p pin = unwrap_or (pin_centre (stand_of flip_last p) pin) origin

-- a padstack has shapes on one layer only
abbrev pub is_on_one : List Piece → Bool
is_on_one [] = false
is_on_one (p ∷ ps) = list_all (λ (q : Piece). q.layer == p.layer) ps

unfoldable pub is_smd : List Padstack → ImagePin → Bool
is_smd stacks pin = option_map_or (λ (s : Padstack). is_on_one s.pieces) (slice_get stacks pin.stack) false

unfoldable pub pin_of : Parts → List Padstack → PlacedPin → Pin
pin_of parts stacks q = record {
  component = q.component.index;
  name = q.image_pin.name;
  net = net_of_pin parts.network.nets q.ref;
  centre = centre_of parts.structure.flip_last q.component.place q.image_pin;
  smd = is_smd stacks q.image_pin;
}

unfoldable pub all_pins : Parts → List Padstack → List Pin
all_pins parts stacks = map (pin_of parts stacks) (board_pins parts.library parts.placing.places)
