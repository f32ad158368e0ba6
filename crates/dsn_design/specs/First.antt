-- What the private functions are given: the sections of a tree that are read first.
use Rattle.std.specs.Prelude.{Ok}
use Rattle.dsn_tree.specs.declared.tree.Tree.{Tree}
use Rattle.dsn_shapes.specs.declared.parts.Head.{Head}
use Rattle.dsn_shapes.specs.declared.parts.Structure.{Structure}
use Rattle.dsn_shapes.specs.declared.parts.Library.{Library}
use Rattle.dsn_shapes.specs.declared.parts.Placing.{Placing}
use Rattle.dsn_shapes.specs.Within.{IsLibraryWithin}
use Rattle.dsn_structure.specs.Sound.{IsHeadSound, IsStructureSound}
use Rattle.dsn_library.specs.Sound.{IsLibrarySound}
use Rattle.dsn_placement.specs.Sound.{HasFewImages, IsPlacingSound}
use Rattle.dsn_design.specs.Reading.{ReadsHead, ReadsStructure, ReadsLibrary, ReadsPlacing}

-- none of the first four phases is refused, and what they read is sound
pub record AreFirst (pcb : Tree) (h : Head) (st : Structure) (lib : Library) (p : Placing) : Type 0 where
  pub head : ReadsHead pcb (Ok h)
  pub structure : ReadsStructure pcb h (Ok st)
  pub library : ReadsLibrary pcb h st (Ok lib)
  pub placing : ReadsPlacing pcb h st lib (Ok p)
  pub head_sound : IsHeadSound h
  pub structure_sound : IsStructureSound st
  pub library_sound : IsLibrarySound lib
  pub library_within : IsLibraryWithin lib
  pub placing_sound : HasFewImages lib → IsPlacingSound st lib p
