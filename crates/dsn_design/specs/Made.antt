-- The design that the sections of a text make together.
use Rattle.std.specs.Prelude.{◌≡◌, ◌+◌, ℕ, List, map}
use Rattle.geo_kernel.specs.declared.point.Point.{Point}
use Rattle.pcb_model.specs.declared.design.BoardLayer.{BoardLayer}
use Rattle.pcb_model.specs.declared.design.Component.{Component}
use Rattle.pcb_model.specs.declared.design.Net.{Net}
use Rattle.pcb_model.specs.declared.design.Padstack.{Padstack}
use Rattle.pcb_model.specs.declared.design.Pin.{Pin}
use Rattle.pcb_model.specs.declared.design.FreeWire.{FreeWire}
use Rattle.pcb_model.specs.declared.design.Design.{Design}
use Rattle.pcb_model.specs.declared.item.Item.{Item}
use Rattle.dsn_shapes.specs.declared.parts.Layer.{Layer}
use Rattle.dsn_shapes.specs.declared.parts.LayerShape.{LayerShape}
use Rattle.dsn_shapes.specs.Lists.{capped}
use Rattle.dsn_design.specs.declared.parts.Parts.{Parts}
use Rattle.dsn_design.specs.Usable.{AreUsable, padstacks_of, usables}
use Rattle.dsn_design.specs.Pins.{all_pins, components_of, layer_count, pin_number, pin_refs}
use Rattle.dsn_design.specs.Nets.{class_rules, net_of, stack_numbers, via_notes}
use Rattle.dsn_design.specs.Items.{fixed_items, free_wiring, loops_of}

abbrev pub board_layer : Layer → BoardLayer
board_layer l = record { name = l.name; power = l.power }

abbrev pub layers_of : List Layer → List BoardLayer
layers_of ls = map board_layer ls

abbrev pub bounds_of : List LayerShape → List (List (List Point))
bounds_of bs = map (λ (b : LayerShape). loops_of b.spine) bs

-- the padstacks that the structure's via lists name
abbrev pub structure_vias : Parts → List ℕ
structure_vias p = stack_numbers p.library.stacks p.structure.vias

-- how many lists and class names were passed over
abbrev pub section_notes : Parts → ℕ
section_notes p = p.head.notes + (p.structure.notes
    + (p.library.notes + (p.placing.notes + (p.network.notes + p.wiring.notes))))

-- and padstacks of via lists that may not be vias
abbrev pub notes_of : Parts → List Padstack → ℕ
notes_of p stacks = capped (section_notes p + via_notes stacks (structure_vias p) p.network.classes)

-- the design that the sections make, where it has these padstacks, components, pins, nets, fixed items and free wiring
unfoldable pub design_with : Parts → List Padstack → List Component → List Pin → List Net → List Item → List FreeWire
    → Design
design_with p stacks components pins nets fixed free = record {
  name = p.head.name;
  unit = p.head.unit;
  per = p.head.per;
  host_cad = p.head.host_cad;
  host_version = p.head.host_version;
  layers = layers_of p.structure.layers;
  bounds = bounds_of p.structure.bounds;
  padstacks = stacks;
  components = components;
  pins = pins;
  nets = nets;
  classes = map class_rules p.network.classes;
  rules = p.structure.rules;
  pairs = p.network.pairs;
  via_at_smd = p.structure.via_at_smd;
  fixed = fixed;
  free = free;
  notes = notes_of p stacks;
}

-- the nets, whose pins are numbered as those of the board
abbrev pub nets_of : Parts → List Padstack → List Net
nets_of p stacks = map (net_of stacks (pin_number (pin_refs p.library p.placing.places))
    (structure_vias p) p.network.classes) p.network.nets

abbrev pub design_from : Parts → List Padstack → Design
design_from p stacks = design_with p stacks (components_of p.library p.placing.places) (all_pins p stacks)
    (nets_of p stacks) (fixed_items p stacks) (free_wiring p.wiring.wires)

-- the padstacks are the library's, each usable or not by all rational points
pub record ArePadstacksOf (p : Parts) (stacks : List Padstack) : Type 0 where
  pub are : stacks ≡ padstacks_of (layer_count p) (usables stacks) p.library.stacks
  pub usable : AreUsable (layer_count p) (usables stacks) p.library.stacks

-- a text's sections make just this design
pub record IsDesignOf (p : Parts) (d : Design) : Type 0 where
  pub padstacks : ArePadstacksOf p d.padstacks
  pub design : d ≡ design_from p d.padstacks
