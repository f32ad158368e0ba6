use Rattle.std.proofs.Common.{◌∙◌, ap}
use Rattle.dsn_shapes.specs.declared.parts.Image.{Image}
use Rattle.dsn_shapes.proofs.Looped.{mapped_more}
use Rattle.dsn_network.specs.Splits.{pin_names}
use Rattle.dsn_network.proofs.pins.images_of.Goals as goal

pub loop-image-preserved : goal.loop-image-preserved
loop-image-preserved c =
    c.in_ok-push.ensures.items
    ∙ mapped_more (λ (image : Image). pin_names image.pins) c.args.images.now c.loop-image.image-index
    c.image-item.result c.loop-image.names.items c.in_ok-pins.pins c.loop-image-test.true
    c.image-item.is c.loop-image.invariant (c.in_ok-pins.ensures ∙ ap pin_names c.as_slice.ensures)
