use Rattle.std.proofs.Common.{sym, subst}
use Rattle.dsn_design.specs.Fit.{IsPlaceWithin}
use Rattle.dsn_design.proofs.items.push_places.Goals as goal

pub push_placed_bans-requires-clause-place_within : goal.push_placed_bans-requires-clause-place_within
push_placed_bans-requires-clause-place_within c =
    subst IsPlaceWithin (sym c.place-item.is)
    (c.requires.places_within c.loop-place.place-index c.place-item.result c.loop-place-test.true)

pub push_pads-requires-clause-place_within : goal.push_pads-requires-clause-place_within
push_pads-requires-clause-place_within c =
    subst IsPlaceWithin (sym c.place-item.is)
    (c.requires.places_within c.loop-place.place-index c.place-item.result c.loop-place-test.true)
