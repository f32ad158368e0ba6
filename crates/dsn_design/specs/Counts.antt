-- What the private functions of `pins`, `nets`, `items` and `board` give: numbers that count up, and end at 2^32 - 1.
use Rattle.std.specs.Prelude.{◌≡◌, ◌+◌, ◌-◌, ◌^◌, ◌++◌, min, ℕ, List, [], ◌∷◌, filter, length, map, slice_get}
use Rattle.std.specs.Prelude.{None, unwrap_or, if◌then◌else◌}
use Rattle.pcb_model.specs.declared.design.Component.{Component}
use Rattle.pcb_model.specs.declared.design.Design.{Design}
use Rattle.pcb_model.specs.declared.design.FreeWire.{FreeWire}
use Rattle.pcb_model.specs.declared.design.Net.{Net}
use Rattle.pcb_model.specs.declared.design.Padstack.{Padstack}
use Rattle.pcb_model.specs.declared.design.Pin.{Pin}
use Rattle.pcb_model.specs.declared.item.Item.{Item}
use Rattle.dsn_shapes.specs.declared.parts.Head.{Head}
use Rattle.dsn_shapes.specs.declared.parts.ImagePin.{ImagePin}
use Rattle.dsn_shapes.specs.declared.parts.Library.{Library}
use Rattle.dsn_shapes.specs.declared.parts.PinRef.{PinRef}
use Rattle.dsn_shapes.specs.declared.parts.Place.{Place}
use Rattle.dsn_shapes.specs.declared.parts.Structure.{Structure}
use Rattle.dsn_design.specs.declared.parts.Parts.{Parts}
use Rattle.dsn_design.specs.Items.{ban_item, edge_item, fixed_wiring, free_wiring, numbered, pad_item, placed_ban}
use Rattle.dsn_design.specs.Made.{ArePadstacksOf, bounds_of, design_with, layers_of, notes_of, structure_vias}
use Rattle.dsn_design.specs.Nets.{class_rules, net_of}
use Rattle.dsn_design.specs.Pins.{component_of, image_bans, image_pins, is_placed, layer_count, pin_of, pin_ref}
use Rattle.dsn_design.specs.Pins.{placed_as, placed_pin}

-- a sum of indices, which ends at 2^32 - 1
abbrev pub plus : ℕ → ℕ → ℕ
plus a b = min (a + b) (2 ^ 32 - 1)

-- ---- components
-- the placed ones, in the order of the placement
unfoldable pub counted_components : Library → List Place → List Component
counted_components lib places = map (component_of lib) (filter is_placed places)

-- ---- all pins
-- of these pins of an image, the first has this number
abbrev pub pins_at : Parts → List Padstack → ℕ → ℕ → Place → ℕ → List ImagePin → List Pin
pins_at parts stacks place component p pin [] = []
pins_at parts stacks place component p pin (i ∷ is) =
    pin_of parts stacks (placed_pin (placed_as (component, (place, p))) (pin, i))
    ∷ pins_at parts stacks place component p (plus pin 1) is

unfoldable pub place_pins : Parts → List Padstack → ℕ → ℕ → Place → List Pin
place_pins parts stacks place component p =
    if is_placed p then pins_at parts stacks place component p 0 (image_pins parts.library p) else []

abbrev pub next_component : ℕ → Place → ℕ
next_component component p = if is_placed p then plus component 1 else component

-- of these components, the first is number `place` of all, and `component` placed ones stand before it
abbrev pub pins_from : Parts → List Padstack → ℕ → ℕ → List Place → List Pin
pins_from parts stacks place component [] = []
pins_from parts stacks place component (p ∷ ps) =
    place_pins parts stacks place component p ++ pins_from parts stacks (plus place 1) (next_component component p) ps

unfoldable pub counted_pins : Parts → List Padstack → List Pin
counted_pins parts stacks = pins_from parts stacks 0 0 parts.placing.places

-- ---- pins by number
abbrev pub pin_count : Library → Place → ℕ
pin_count lib p = if is_placed p then length (image_pins lib p) else 0

-- the number of the first pin of each of these components, where n pins stand before them
abbrev pub firsts_from : Library → ℕ → List Place → List ℕ
firsts_from lib n [] = []
firsts_from lib n (p ∷ ps) = n ∷ firsts_from lib (plus n (pin_count lib p)) ps

unfoldable pub first_pins : Library → List Place → List ℕ
first_pins lib places = firsts_from lib 0 places

-- the number of a pin, where the components' first pins have these numbers
unfoldable pub counted_number : List ℕ → PinRef → ℕ
counted_number firsts r = plus (unwrap_or (slice_get firsts r.place) 0) r.pin

abbrev pub counted_nets : Parts → List Padstack → List Net
counted_nets p stacks =
    map (net_of stacks (counted_number (first_pins p.library p.placing.places)) (structure_vias p) p.network.classes)
    p.network.nets

-- ---- keepouts and pads of placed components
-- of these pins of an image, the first has these numbers
abbrev pub pads_at : Parts → List Padstack → ℕ → Place → ℕ → ℕ → List ImagePin → List Item
pads_at parts stacks place p pin number [] = []
pads_at parts stacks place p pin number (i ∷ is) =
    pad_item parts stacks number (pin_ref place pin) p i ∷ pads_at parts stacks place p (plus pin 1) (plus number 1) is

abbrev pub placed_items : Parts → List Padstack → ℕ → ℕ → Place → List Item
placed_items parts stacks place number p =
    map (placed_ban parts p) (image_bans parts.library p)
    ++ pads_at parts stacks place p 0 number (image_pins parts.library p)

unfoldable pub place_items : Parts → List Padstack → ℕ → ℕ → Place → List Item
place_items parts stacks place number p = if is_placed p then placed_items parts stacks place number p else []

abbrev pub next_number : Parts → ℕ → Place → ℕ
next_number parts number p = if is_placed p then plus number (length (image_pins parts.library p)) else number

-- of these components, the first is number `place` of all, and `number` pins are placed before it
abbrev pub items_from : Parts → List Padstack → ℕ → ℕ → List Place → List Item
items_from parts stacks place number [] = []
items_from parts stacks place number (p ∷ ps) =
    place_items parts stacks place number p ++ items_from parts stacks (plus place 1) (next_number parts number p) ps

-- ---- the whole
-- the items of boundaries, keepouts, components and wiring
abbrev pub listed_items : Parts → List Padstack → List Item
listed_items parts stacks = map (edge_item (layer_count parts)) parts.structure.bounds
    ++ (map (ban_item (layer_count parts)) parts.structure.bans
    ++ (items_from parts stacks 0 0 parts.placing.places
    ++ fixed_wiring stacks parts.wiring.wires))

unfoldable pub counted_items : Parts → List Padstack → List Item
counted_items parts stacks = numbered (listed_items parts stacks)

abbrev pub counted_with : Parts → List Padstack → List Item → List FreeWire → Design
counted_with p stacks fixed free = design_with p stacks (counted_components p.library p.placing.places)
    (counted_pins p stacks) (counted_nets p stacks) fixed free

-- the design that is filled: these padstacks and this free wiring, and what no memory is asked for
abbrev pub bare_with : Parts → List Padstack → List FreeWire → Design
bare_with p stacks free = record {
  name = [];
  unit = p.head.unit;
  per = p.head.per;
  host_cad = None;
  host_version = None;
  layers = [];
  bounds = [];
  padstacks = stacks;
  components = [];
  pins = [];
  nets = [];
  classes = [];
  rules = record { width = None; plain = None; typed = [] };
  pairs = [];
  via_at_smd = p.structure.via_at_smd;
  fixed = [];
  free = free;
  notes = 0;
}

-- and its parts, as they are filled in: names, outline, components with their pins, and nets
abbrev pub labelled : Head → Design → Design
labelled h d = record d { name = h.name; host_cad = h.host_cad; host_version = h.host_version }

abbrev pub outlined : Structure → Design → Design
outlined s d = record d { layers = layers_of s.layers; bounds = bounds_of s.bounds; rules = s.rules }

abbrev pub populated : Parts → Design → Design
populated p d = record d {
  components = counted_components p.library p.placing.places;
  pins = counted_pins p d.padstacks;
}

abbrev pub connected : Parts → Design → Design
connected p d = record d {
  nets = counted_nets p d.padstacks;
  classes = map class_rules p.network.classes;
  pairs = p.network.pairs;
  notes = notes_of p d.padstacks;
}

abbrev pub counted_from : Parts → List Padstack → Design
counted_from p stacks = counted_with p stacks (counted_items p stacks) (free_wiring p.wiring.wires)

-- what making a design of these parts gives
pub record IsCountedOf (p : Parts) (d : Design) : Type 0 where
  pub padstacks : ArePadstacksOf p d.padstacks
  pub design : d ≡ counted_from p d.padstacks
