-- Sound libraries: names that differ and can be printed, copper that fits, and pins that have their padstacks.
use Rattle.std.specs.Prelude.{◌≢◌, ◌<◌, ◌^◌, ℕ, All, AllPairs, length}
use Rattle.geo_kernel.specs.Plane.{IsWithin}
use Rattle.pcb_model.specs.Sound.{IsPrintable}
use Rattle.dsn_shapes.specs.declared.parts.BanShape.{BanShape}
use Rattle.dsn_shapes.specs.declared.parts.Stack.{Stack}
use Rattle.dsn_shapes.specs.declared.parts.ImagePin.{ImagePin}
use Rattle.dsn_shapes.specs.declared.parts.Image.{Image}
use Rattle.dsn_shapes.specs.declared.parts.Library.{Library}
use Rattle.dsn_shapes.specs.Fits.{IsPlainShape, IsShapeFit}

-- a padstack's name can be printed; its shapes fit, and each is a chain or an area of one loop
pub record IsStackSound (s : Stack) : Type 0 where
  pub name : IsPrintable s.name
  pub shapes_fit : All IsShapeFit s.shapes
  pub shapes_plain : All IsPlainShape s.shapes

-- a pin has one of `stacks` padstacks; its place is within 2 ^ 29 and its angle has no whole turns
pub record IsImagePinSound (stacks : ℕ) (p : ImagePin) : Type 0 where
  pub stack : p.stack < stacks
  pub at : IsWithin (2 ^ 29) p.at
  pub angle : p.angle.microdegrees < 360000000

-- an image's name can be printed, its pins have names that differ, and its keepouts fit
pub record IsImageSound (stacks : ℕ) (i : Image) : Type 0 where
  pub name : IsPrintable i.name
  pub pins : All (IsImagePinSound stacks) i.pins
  pub pin_names : AllPairs (λ (a b : ImagePin). a.name ≢ b.name) i.pins
  pub bans : All (λ (b : BanShape). IsShapeFit b.shape) i.bans

-- the names of padstacks differ, and so do those of images
pub record IsLibrarySound (l : Library) : Type 0 where
  pub stacks : All IsStackSound l.stacks
  pub stack_names : AllPairs (λ (a b : Stack). a.name ≢ b.name) l.stacks
  pub images : All (IsImageSound (length l.stacks)) l.images
  pub image_names : AllPairs (λ (a b : Image). a.name ≢ b.name) l.images
