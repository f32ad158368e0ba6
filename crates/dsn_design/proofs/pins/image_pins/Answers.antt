use Rattle.std.proofs.Common.{sym, subst}
use Rattle.std.specs.Prelude.{All}
use Rattle.dsn_shapes.specs.Within.{IsImageWithin, IsPinWithin}
use Rattle.dsn_design.proofs.Got.{got}
use Rattle.dsn_design.proofs.pins.image_pins.Goals as goal

pub returns-in-Some-clause-within : goal.returns-in-Some-clause-within
returns-in-Some-clause-within c =
    subst (All IsPinWithin) (sym c.as_slice.ensures)
    (got IsImageWithin c.args.lib.now.images c.args.place.now.image c.in-Some.image.now c.requires.images
    c.in-Some.ensures.value).pins
