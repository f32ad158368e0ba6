use Rattle.std.proofs.Common.{sym, subst}
use Rattle.std.specs.Prelude.{◌^◌, All}
use Rattle.geo_kernel.specs.Spine.{IsSpineWithin}
use Rattle.dsn_shapes.specs.declared.parts.BanShape.{BanShape}
use Rattle.dsn_shapes.specs.Within.{IsImageWithin}
use Rattle.dsn_design.proofs.Got.{got}
use Rattle.dsn_design.proofs.pins.image_bans.Goals as goal

pub returns-in-Some-clause-within : goal.returns-in-Some-clause-within
returns-in-Some-clause-within c =
    subst (All (λ (ban : BanShape). IsSpineWithin (2 ^ 29) ban.shape.spine)) (sym c.as_slice.ensures)
    (got IsImageWithin c.args.lib.now.images c.args.place.now.image c.in-Some.image.now c.requires.images
    c.in-Some.ensures.value).bans
