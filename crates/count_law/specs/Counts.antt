-- The counts of a design's readers, which are written to end at 2^64 - 1, as plain sums.
-- Each such count is a field of `AreCountsPlain`: of notes, of a structure's items and of an image's items.
use Rattle.std.specs.Prelude.{◌≡◌, ◌+◌, ℕ, List, [], ◌∷◌, Some, All, length, sum_by}
use Rattle.dsn_tree.specs.declared.tree.Tree.{Tree}
use Rattle.dsn_tree.specs.Trees.{HasTree}
use Rattle.pcb_model.specs.declared.design.Design.{Design}
use Rattle.pcb_model.specs.declared.design.Padstack.{Padstack}
use Rattle.dsn_shapes.specs.declared.known.ListKind.TheVariants as list
use Rattle.dsn_shapes.specs.declared.parts.Image.{Image}
use Rattle.dsn_shapes.specs.declared.parts.Layer.{Layer}
use Rattle.dsn_shapes.specs.declared.parts.Library.{Library}
use Rattle.dsn_shapes.specs.declared.parts.Network.{Network}
use Rattle.dsn_shapes.specs.declared.parts.Placing.{Placing}
use Rattle.dsn_shapes.specs.declared.parts.Structure.{Structure}
use Rattle.dsn_shapes.specs.Lists.{notes_in}
use Rattle.dsn_shapes.specs.Rules.{rule_notes}
use Rattle.dsn_shapes.specs.Shapes.{ban_notes}
use Rattle.dsn_structure.specs.Header.{head_of, parsers}
use Rattle.dsn_structure.specs.Layout.{frame_notes, keepouts, rule_lists, structure_of, structures}
use Rattle.dsn_library.specs.Whole.{images, libraries, library_notes, library_of, padstacks}
use Rattle.dsn_placement.specs.Places.{items_of, places_in}
use Rattle.dsn_placement.specs.Placing.{components, items_before, lists_passed as places_passed, placements, placing_of}
use Rattle.dsn_network.specs.Whole.{class_lists, net_lists, network_of, network_passed, networks, pair_lists}
use Rattle.dsn_network.specs.Whole.{rules_passed}
use Rattle.dsn_wiring.specs.Whole.{lists_passed as wires_passed, wire_lists, wiring_of, wirings}
use Rattle.dsn_design.specs.declared.parts.Parts.{Parts}
use Rattle.dsn_design.specs.Made.{notes_of, structure_vias}
use Rattle.dsn_design.specs.Nets.{via_notes}
use Rattle.dsn_design.specs.Reading.{ArePartsOf}

-- ---- what is passed over with a note, as plain sums
-- directly in the design and its parser lists
abbrev pub head_sum : Tree → ℕ
head_sum pcb = notes_in list.Pcb (pcb ∷ []) + notes_in list.Parser (parsers pcb)

-- in the structure: its layers and controls, its keepouts and its rules
abbrev pub structure_sum : Tree → ℕ
structure_sum pcb = frame_notes (structures pcb)
    + (sum_by ban_notes (keepouts (structures pcb)) + rule_notes (rule_lists (structures pcb)))

-- in the library
abbrev pub library_sum : Tree → ℕ
library_sum pcb = library_notes (libraries pcb) (images pcb) (padstacks pcb)

-- in the placement
abbrev pub placement_sum : Tree → ℕ
placement_sum pcb = places_passed (placements pcb) (components pcb) (places_in (components pcb))

-- in the network, and in the rules of its nets, classes and class pairs
abbrev pub network_sum : Tree → ℕ
network_sum pcb = network_passed (networks pcb) (net_lists pcb) (class_lists pcb) (pair_lists pcb)
    + (rules_passed (net_lists pcb) + rules_passed (class_lists pcb) + rules_passed (pair_lists pcb))

-- in the wiring
abbrev pub wiring_sum : Tree → ℕ
wiring_sum pcb = wires_passed (wirings pcb) (wire_lists pcb)

-- in all of these
abbrev pub sections_sum : Tree → ℕ
sections_sum pcb = head_sum pcb + (structure_sum pcb
    + (library_sum pcb + (placement_sum pcb + (network_sum pcb + wiring_sum pcb))))

-- with the padstacks of the parts' via lists that aren't usable
abbrev pub design_sum : Tree → Parts → List Padstack → ℕ
design_sum pcb p stacks = sections_sum pcb + via_notes stacks (structure_vias p) p.network.classes

-- ---- the law
-- the items of an image are its keepouts and its pins
abbrev pub HasPlainItems : Image → Type 0
HasPlainItems i = items_of (Some i) ≡ length i.bans + length i.pins

-- each count that is read of this tree is the plain sum, in any scale and after any earlier sections
pub record AreCountsPlain (pcb : Tree) : Type 0 where
  -- notes
  pub head : (head_of pcb).notes ≡ head_sum pcb
  pub structure : (nm : ℕ) → (structure_of nm pcb).notes ≡ structure_sum pcb
  pub library : (nm : ℕ) (layers : List Layer) → (library_of nm layers pcb).notes ≡ library_sum pcb
  pub placement : (nm : ℕ) (st : Structure) (lib : Library) → (placing_of nm st lib pcb).notes ≡ placement_sum pcb
  pub network : (nm : ℕ) (lib : Library) (placing : Placing)
      → (network_of nm lib placing pcb).notes ≡ network_sum pcb
  pub wiring : (nm : ℕ) (st : Structure) (lib : Library) (placing : Placing) (net : Network)
      → (wiring_of nm st lib placing net pcb).notes ≡ wiring_sum pcb
  -- the boundaries and keepouts of the structure, and the keepouts and pins of an image
  pub structure_items : (nm : ℕ) → items_before (structure_of nm pcb)
      ≡ length (structure_of nm pcb).bounds + length (structure_of nm pcb).bans
  pub image_items : (nm : ℕ) (layers : List Layer) → All HasPlainItems (library_of nm layers pcb).images
  -- all notes of a design
  pub design : (p : Parts) (stacks : List Padstack) → ArePartsOf pcb p → notes_of p stacks ≡ design_sum pcb p stacks

-- the notes of a text's design are the plain sum of what its tree passes over and its parts can't use
pub record HasPlainNotes (text : List ℕ) (d : Design) : Type 0 where
  pub pcb : Tree
  pub tree : HasTree text pcb
  pub parts : Parts
  pub are_parts : ArePartsOf pcb parts
  pub notes : d.notes ≡ design_sum pcb parts d.padstacks
