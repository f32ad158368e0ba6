-- Nets: their pins by number, their classes, and the usable padstacks of their vias.
use Rattle.std.specs.Prelude.{◌+◌, ℕ, Bool, false, not, List, [], Option, None, Some, count_by, filter, map, slice_get}
use Rattle.std.specs.Prelude.{sum_by, unwrap_or}
use Rattle.std.specs.Option.{option_map_or}
use Rattle.pcb_model.specs.declared.design.Net.{Net}
use Rattle.pcb_model.specs.declared.design.Padstack.{Padstack}
use Rattle.pcb_model.specs.declared.design.RuleSet.{RuleSet}
use Rattle.dsn_shapes.specs.declared.parts.PinRef.{PinRef}
use Rattle.dsn_shapes.specs.declared.parts.ReadNet.{ReadNet}
use Rattle.dsn_shapes.specs.declared.parts.ReadClass.{ReadClass}
use Rattle.dsn_shapes.specs.declared.parts.Stack.{Stack}
use Rattle.dsn_shapes.specs.Names.{first_place, place_index, stack_names}

-- the padstacks of names that the library has
abbrev pub stack_number : List (List ℕ) → List ℕ → ℕ
stack_number known name = place_index (unwrap_or (first_place name known) 0)

unfoldable pub stack_numbers : List Stack → List (List ℕ) → List ℕ
stack_numbers stacks names = map (stack_number (stack_names stacks)) names

-- ---- vias
abbrev pub is_usable_at : List Padstack → ℕ → Bool
is_usable_at stacks v = option_map_or (λ (s : Padstack). s.usable) (slice_get stacks v) false

-- of several padstacks those that are usable
unfoldable pub usable_of : List Padstack → List ℕ → List ℕ
usable_of stacks vias = filter (is_usable_at stacks) vias

-- how many aren't
unfoldable pub unusable_in : List Padstack → List ℕ → ℕ
unusable_in stacks vias = count_by (λ v. not (is_usable_at stacks v)) vias

-- a net's list of vias is its class's, or else the structure's
abbrev pub class_vias : List ReadClass → Option ℕ → Option (List ℕ)
class_vias classes None = None
class_vias classes (Some c) = option_map_or (λ (k : ReadClass). k.vias) (slice_get classes c) None

abbrev pub via_list : List ℕ → List ReadClass → ReadNet → List ℕ
via_list structure_vias classes n = unwrap_or (class_vias classes n.class) structure_vias

-- ---- nets, whose pins have these numbers
unfoldable pub net_of : List Padstack → (PinRef → ℕ) → List ℕ → List ReadClass → ReadNet → Net
net_of stacks number structure_vias classes n = record {
  name = n.name;
  pins = map number n.pins;
  class = n.class;
  rules = n.rules;
  vias = usable_of stacks (via_list structure_vias classes n);
}

abbrev pub class_rules : ReadClass → RuleSet
class_rules k = k.rules

-- how many padstacks of the via lists aren't usable
abbrev pub unusable_of_class : List Padstack → ReadClass → ℕ
unusable_of_class stacks k = unusable_in stacks (unwrap_or k.vias [])

unfoldable pub via_notes : List Padstack → List ℕ → List ReadClass → ℕ
via_notes stacks structure_vias classes = unusable_in stacks structure_vias + sum_by (unusable_of_class stacks) classes
