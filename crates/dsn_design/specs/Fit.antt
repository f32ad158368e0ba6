-- Parts of a design that are well formed and within bounds.
use Rattle.std.specs.Prelude.{◌≤◌, ◌<◌, ◌^◌, All, IfSome, length}
use Rattle.geo_kernel.specs.Plane.{IsWithin}
use Rattle.pcb_model.specs.Bounds.{IsMetalFit}
use Rattle.dsn_shapes.specs.declared.parts.Stack.{Stack}
use Rattle.dsn_shapes.specs.declared.parts.Place.{Place}
use Rattle.dsn_shapes.specs.declared.parts.ReadWire.{ReadWire}
use Rattle.dsn_shapes.specs.Fits.{IsShapeFit}
use Rattle.dsn_shapes.specs.Within.{IsLibraryWithin}
use Rattle.dsn_design.specs.declared.parts.Parts.{Parts}
use Rattle.pcb_model.specs.declared.limits.TheConstants.{MOST_LAYERS}

-- shapes with coordinates up to 2^29 and widths up to 2^28
pub record IsStackFit (s : Stack) : Type 0 where
  pub shapes : All IsShapeFit s.shapes

-- a component's place has such coordinates, and its angle no whole turns
pub record IsPlaceWithin (p : Place) : Type 0 where
  pub at : IfSome p.at (IsWithin (2 ^ 29))
  pub angle : p.angle.microdegrees < 360000000

pub record IsWireFit (w : ReadWire) : Type 0 where
  pub metal : IsMetalFit w.metal

-- what making a design of its parts needs
pub record ArePartsFit (p : Parts) : Type 0 where
  pub few_layers : length p.structure.layers ≤ MOST_LAYERS
  pub library : IsLibraryWithin p.library
  pub stacks : All IsStackFit p.library.stacks
  pub places : All IsPlaceWithin p.placing.places
  pub wires : All IsWireFit p.wiring.wires
