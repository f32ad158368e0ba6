-- The names of a design's pins.
use Rattle.std.specs.Prelude.{ℕ, List, [], ◌++◌, codes, slice_get}
use Rattle.std.specs.Option.{option_map_or}
use Rattle.pcb_model.specs.declared.design.Component.{Component}
use Rattle.pcb_model.specs.declared.design.Pin.{Pin}
use Rattle.pcb_model.specs.declared.design.Design.{Design}

abbrev pub component_name : Design → ℕ → List ℕ
component_name d component = option_map_or (λ (c : Component). c.name) (slice_get d.components component) []

-- the component's name, a hyphen and the pin's name
abbrev pub name_of_pin : Design → Pin → List ℕ
name_of_pin d p = component_name d p.component ++ codes "-" ++ p.name

-- that of the pin with this number
abbrev pub pin_name : Design → ℕ → List ℕ
pin_name d pin = option_map_or (name_of_pin d) (slice_get d.pins pin) []
