use Rattle.std.proofs.Common.{◌≡◌, take}
use Rattle.std.specs.Prelude.{map}
use Rattle.dsn_shapes.specs.declared.parts.Image.{Image}
use Rattle.dsn_network.specs.Splits.{pin_names}
use Rattle.dsn_network.proofs.pins.images_of.Given as goal

abbrev pub invariant-loop-image : goal.invariant-loop-image
invariant-loop-image l = l.names.items ≡ map (λ (image : Image). pin_names image.pins) (take l.image-index l.images)
