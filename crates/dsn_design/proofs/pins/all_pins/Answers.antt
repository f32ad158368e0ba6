use Rattle.std.proofs.Common.{sym, subst}
use Rattle.std.specs.Prelude.{All}
use Rattle.dsn_design.specs.Fit.{IsPlaceWithin}
use Rattle.dsn_design.proofs.Loops.{at_place}
use Rattle.dsn_design.proofs.pins.all_pins.Goals as goal

pub push_pins-requires-clause-place_within : goal.push_pins-requires-clause-place_within
push_pins-requires-clause-place_within c =
    at_place IsPlaceWithin c.as_slice-places.result.now
    (subst (All IsPlaceWithin) (sym c.as_slice-places.ensures) c.requires.places) c.loop-place.place-index
    c.place-item.result c.loop-place-test.true c.place-item.is
