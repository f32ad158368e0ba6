-- Parts of a design that are sound: what making a sound design needs.
use Rattle.std.specs.Prelude.{◌≤◌, ◌^◌, ℕ, List, All, IfSome, length}
use Rattle.std.specs.List.{flat_map}
use Rattle.dsn_tree.specs.declared.tree.Tree.{Tree}
use Rattle.dsn_tree.specs.Flat.{flat}
use Rattle.dsn_shapes.specs.declared.parts.ReadClass.{ReadClass}
use Rattle.dsn_shapes.specs.Within.{IsLibraryWithin}
use Rattle.dsn_structure.specs.Sound.{IsHeadSound, IsStructureSound}
use Rattle.dsn_library.specs.Sound.{IsLibrarySound}
use Rattle.dsn_placement.specs.Sound.{IsPlacingSound}
use Rattle.dsn_network.specs.Sound.{IsNetworkSound}
use Rattle.dsn_wiring.specs.Sound.{IsWiringSound}
use Rattle.dsn_design.specs.declared.parts.Parts.{Parts}

-- how many tokens these trees have together
abbrev pub weight : List Tree → ℕ
weight ts = length (flat_map flat ts)

-- of each kind of part at most 2^26
pub record AreFewParts (p : Parts) : Type 0 where
  pub stacks : length p.library.stacks ≤ 2 ^ 26
  pub places : length p.placing.places ≤ 2 ^ 26
  pub classes : length p.network.classes ≤ 2 ^ 26
  pub structure_vias : length p.structure.vias ≤ 2 ^ 26
  pub class_vias : All (λ (c : ReadClass). IfSome c.vias (λ vs. length vs ≤ 2 ^ 26)) p.network.classes

-- each section is sound
pub record ArePartsSound (p : Parts) : Type 0 where
  pub head : IsHeadSound p.head
  pub structure : IsStructureSound p.structure
  pub library : IsLibrarySound p.library
  pub within : IsLibraryWithin p.library
  pub placing : IsPlacingSound p.structure p.library p.placing
  pub network : IsNetworkSound p.library p.placing p.network
  pub wiring : IsWiringSound p.structure p.library p.network p.wiring
  pub few : AreFewParts p
