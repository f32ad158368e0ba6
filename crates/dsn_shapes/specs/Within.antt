-- How far the parts of a library reach: what placing them needs.
use Rattle.std.specs.Prelude.{◌<◌, ◌^◌, All}
use Rattle.geo_kernel.specs.Plane.{IsWithin}
use Rattle.geo_kernel.specs.Spine.{IsSpineWithin}
use Rattle.dsn_shapes.specs.declared.parts.LayerShape.{LayerShape}
use Rattle.dsn_shapes.specs.declared.parts.BanShape.{BanShape}
use Rattle.dsn_shapes.specs.declared.parts.Stack.{Stack}
use Rattle.dsn_shapes.specs.declared.parts.ImagePin.{ImagePin}
use Rattle.dsn_shapes.specs.declared.parts.Image.{Image}
use Rattle.dsn_shapes.specs.declared.parts.Library.{Library}

-- the vertices of a padstack have coordinates of at most 2 ^ 29 in absolute value
pub record IsStackWithin (s : Stack) : Type 0 where
  pub shapes : All (λ (shape : LayerShape). IsSpineWithin (2 ^ 29) shape.spine) s.shapes

-- so has the place of a pin, whose angle has no whole turns
pub record IsPinWithin (p : ImagePin) : Type 0 where
  pub at : IsWithin (2 ^ 29) p.at
  pub angle : p.angle.microdegrees < 360000000

-- so have the keepouts of an image
pub record IsImageWithin (i : Image) : Type 0 where
  pub pins : All IsPinWithin i.pins
  pub bans : All (λ (ban : BanShape). IsSpineWithin (2 ^ 29) ban.shape.spine) i.bans

-- a library within bounds
pub record IsLibraryWithin (l : Library) : Type 0 where
  pub stacks : All IsStackWithin l.stacks
  pub images : All IsImageWithin l.images
