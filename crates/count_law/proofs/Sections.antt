-- What the readers of a design count in each section is at most a few times the weight of its tree.
-- Each list that a reader goes over lies in the tree, so its weight is at most the tree's.
use Rattle.std.proofs.Common.{◌≤◌, ◌+◌, ◌*◌, ℕ, List, [], ◌∷◌, length, arith}
use Rattle.std.specs.Prelude.{codes}
use Rattle.dsn_tree.specs.declared.tree.Tree.{Tree}
use Rattle.dsn_tree.specs.Flat.{flat}
use Rattle.dsn_shapes.specs.declared.known.ListKind.TheVariants as list
use Rattle.dsn_shapes.specs.declared.parts.Layer.{Layer}
use Rattle.dsn_shapes.specs.Known.{keepout_heads}
use Rattle.dsn_shapes.specs.Rules.{rule_notes}
use Rattle.dsn_shapes.specs.Shapes.{ban_of, bound_of}
use Rattle.dsn_shapes.specs.Names.{names_at}
use Rattle.dsn_structure.specs.Header.{parsers}
use Rattle.dsn_structure.specs.Layout.{boundaries, controls, frame_layers, frame_notes, keepouts, layer_lists}
use Rattle.dsn_structure.specs.Layout.{lists_passed as structure_passed, rule_lists, structure_of, structures, value_of}
use Rattle.dsn_library.specs.Images.{image_of, keepouts_in, pins_in}
use Rattle.dsn_library.specs.Padstacks.{shapes_in}
use Rattle.dsn_library.specs.Pins.{pin_of}
use Rattle.dsn_library.specs.Whole.{forms_passed, images, libraries, library_notes, padstacks, parts_passed}
use Rattle.dsn_library.specs.Whole.{sections_passed}
use Rattle.dsn_placement.specs.Places.{places_in}
use Rattle.dsn_placement.specs.Placing.{components, lists_passed as places_passed, placements}
use Rattle.dsn_network.specs.Words.{rules_in, words_in}
use Rattle.dsn_network.specs.Classes.{circuits_in, is_stray, stray_names}
use Rattle.dsn_network.specs.Whole.{class_lists, classes_passed, net_lists, network_passed, networks}
use Rattle.dsn_network.specs.Whole.{pair_lists, rules_passed}
use Rattle.dsn_wiring.specs.Whole.{lists_passed as wires_passed, wire_lists, wirings}
use Rattle.dsn_design.specs.Sound.{weight}
use Rattle.dsn_design.proofs.Counted.{lists_weight, words_weight}
use Rattle.count_law.specs.Counts.{head_sum, library_sum, network_sum, placement_sum, sections_sum, structure_sum}
use Rattle.count_law.specs.Counts.{wiring_sum}
use Rattle.count_law.proofs.Weighing.{bans_weight, besides_weight, counted_weight, made_weight, notes_weight}
use Rattle.count_law.proofs.Weighing.{rule_weight, sum_weight, weight_one}

-- ---- the head
-- the design and its parser lists
pub head_weight : (pcb : Tree) → head_sum pcb ≤ 2 * weight (pcb ∷ [])
head_weight pcb = omega (
  arith,
  notes_weight list.Pcb (pcb ∷ []),
  notes_weight list.Parser (parsers pcb),
  lists_weight (codes "parser" ∷ []) (pcb ∷ []),
)

-- ---- the structure
-- its sections, layers and controls
frame_weight : (structs : List Tree) → frame_notes structs ≤ 3 * weight structs
unfolding structure_passed
frame_weight structs = omega (
  arith,
  notes_weight list.Structure structs,
  notes_weight list.Layer (layer_lists structs),
  notes_weight list.Control (controls structs),
  lists_weight (codes "layer" ∷ []) structs,
  lists_weight (codes "control" ∷ []) structs,
)

-- with its keepouts and rules
pub structure_weight : (pcb : Tree) → structure_sum pcb ≤ 8 * weight (pcb ∷ [])
structure_weight pcb =
    let structs = structures pcb in
    omega (
      arith,
      frame_weight structs,
      bans_weight (keepouts structs),
      rule_weight (rule_lists structs),
      lists_weight keepout_heads structs,
      lists_weight (codes "rule" ∷ []) structs,
      lists_weight (codes "structure" ∷ []) (pcb ∷ []),
    )

-- its boundaries and keepouts
pub fixed_weight : (nm : ℕ) (pcb : Tree)
    → length (structure_of nm pcb).bounds + length (structure_of nm pcb).bans ≤ 2 * weight (pcb ∷ [])
unfolding structure_of value_of
fixed_weight nm pcb =
    let structs = structures pcb in
    omega (
      arith,
      made_weight (bound_of nm (frame_layers structs)) (boundaries structs),
      made_weight (ban_of nm (frame_layers structs)) (keepouts structs),
      lists_weight (codes "boundary" ∷ []) structs,
      lists_weight keepout_heads structs,
      lists_weight (codes "structure" ∷ []) (pcb ∷ []),
    )

-- ---- the library
-- its sections, images, pins and padstacks, and their forms
library_within : (libs imgs stacks : List Tree)
    → library_notes libs imgs stacks ≤ weight libs + (4 * weight imgs + 2 * weight stacks)
unfolding library_notes sections_passed parts_passed forms_passed
library_within libs imgs stacks = omega (
  arith,
  notes_weight list.Library libs,
  notes_weight list.Image imgs,
  notes_weight list.Pin (pins_in imgs),
  notes_weight list.Padstack stacks,
  besides_weight (shapes_in stacks),
  bans_weight (keepouts_in imgs),
  lists_weight (codes "pin" ∷ []) imgs,
  lists_weight (codes "shape" ∷ []) stacks,
  lists_weight keepout_heads imgs,
)

-- in the tree
pub library_weight : (pcb : Tree) → library_sum pcb ≤ 7 * weight (pcb ∷ [])
library_weight pcb =
    let libs = libraries pcb in
    omega (
      arith,
      library_within libs (images pcb) (padstacks pcb),
      lists_weight (codes "image" ∷ []) libs,
      lists_weight (codes "padstack" ∷ []) libs,
      lists_weight (codes "library" ∷ []) (pcb ∷ []),
    )

-- the images lie in the tree
pub images_weight : (pcb : Tree) → weight (images pcb) ≤ weight (pcb ∷ [])
images_weight pcb = omega (
  arith,
  lists_weight (codes "image" ∷ []) (libraries pcb),
  lists_weight (codes "library" ∷ []) (pcb ∷ []),
)

-- the keepouts and pins of an image
pub image_weight : (nm : ℕ) (layers : List Layer) (stacks : List (List ℕ)) (t : Tree)
    → length (image_of nm layers stacks t).bans + length (image_of nm layers stacks t).pins ≤ 2 * weight (t ∷ [])
unfolding image_of
image_weight nm layers stacks t = omega (
  arith,
  made_weight (ban_of nm layers) (keepouts_in (t ∷ [])),
  made_weight (pin_of nm stacks) (pins_in (t ∷ [])),
  lists_weight keepout_heads (t ∷ []),
  lists_weight (codes "pin" ∷ []) (t ∷ []),
)

-- ---- the placement
-- its sections, components and places
places_within : (sections comps places : List Tree)
    → places_passed sections comps places ≤ weight sections + (weight comps + weight places)
unfolding places_passed
places_within sections comps places = omega (
  arith,
  notes_weight list.Placement sections,
  notes_weight list.Component comps,
  notes_weight list.Component places,
)

-- in the tree
pub placement_weight : (pcb : Tree) → placement_sum pcb ≤ 3 * weight (pcb ∷ [])
placement_weight pcb =
    let comps = components pcb in
    omega (
      arith,
      places_within (placements pcb) comps (places_in comps),
      lists_weight (codes "place" ∷ []) comps,
      lists_weight (codes "component" ∷ []) (placements pcb),
      lists_weight (codes "placement" ∷ []) (pcb ∷ []),
    )

-- ---- the network
-- the rules of one list
list_rules : (t : Tree) → rule_notes (rules_in (t ∷ [])) ≤ 3 * length (flat t)
list_rules t = omega (arith, rule_weight (rules_in (t ∷ [])), lists_weight (codes "rule" ∷ []) (t ∷ []), weight_one t)

-- of some lists
rules_weight : (ts : List Tree) → rules_passed ts ≤ 3 * weight ts
rules_weight ts = sum_weight (λ t. rule_notes (rules_in (t ∷ []))) 3 list_rules ts

-- the names of no net
stray_weight : (nets : List (List ℕ)) (classes : List Tree) → stray_names nets classes ≤ weight classes
unfolding stray_names
stray_weight nets classes =
    omega (arith, counted_weight (is_stray nets) (words_in 2 classes), words_weight 2 classes)

-- its sections, nets, classes, circuits and class pairs
network_within : (sections nets classes pairs : List Tree)
    → network_passed sections nets classes pairs ≤ weight sections + (weight nets + (3 * weight classes + weight pairs))
unfolding network_passed classes_passed
network_within sections nets classes pairs = omega (
  arith,
  notes_weight list.Network sections,
  notes_weight list.Net nets,
  notes_weight list.Class classes,
  notes_weight list.Class (circuits_in classes),
  notes_weight list.Pair pairs,
  lists_weight (codes "circuit" ∷ []) classes,
  stray_weight (names_at 1 nets) classes,
)

-- in the tree
pub network_weight : (pcb : Tree) → network_sum pcb ≤ 15 * weight (pcb ∷ [])
network_weight pcb =
    let sections = networks pcb in
    omega (
      arith,
      network_within sections (net_lists pcb) (class_lists pcb) (pair_lists pcb),
      rules_weight (net_lists pcb),
      rules_weight (class_lists pcb),
      rules_weight (pair_lists pcb),
      lists_weight (codes "net" ∷ []) sections,
      lists_weight (codes "class" ∷ []) sections,
      lists_weight (codes "class_class" ∷ []) sections,
      lists_weight (codes "network" ∷ []) (pcb ∷ []),
    )

-- ---- the wiring
-- its sections, wires and vias
wires_within : (sections ts : List Tree) → wires_passed sections ts ≤ weight sections + weight ts
unfolding wires_passed
wires_within sections ts = omega (arith, notes_weight list.Wiring sections, notes_weight list.Wiring ts)

-- in the tree
pub wiring_weight : (pcb : Tree) → wiring_sum pcb ≤ 2 * weight (pcb ∷ [])
wiring_weight pcb = omega (
  arith,
  wires_within (wirings pcb) (wire_lists pcb),
  lists_weight (codes "wire" ∷ codes "via" ∷ []) (wirings pcb),
  lists_weight (codes "wiring" ∷ []) (pcb ∷ []),
)

-- ---- all sections
-- 2, 8, 7, 3, 15 and 2 times the weight
pub sections_weight : (pcb : Tree) → sections_sum pcb ≤ 37 * weight (pcb ∷ [])
sections_weight pcb = omega (
  arith,
  head_weight pcb,
  structure_weight pcb,
  library_weight pcb,
  placement_weight pcb,
  network_weight pcb,
  wiring_weight pcb,
)
