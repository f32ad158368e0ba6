use Rattle.std.proofs.Common.{sym}
use Rattle.board_offers.proofs.Parting.{with_given, with_none}
use Rattle.board_offers.proofs.parted.least_parted_from.Goals as goal

pub least_parted_of-requires-clause-old_fits : goal.least_parted_of-requires-clause-old_fits
least_parted_of-requires-clause-old_fits g c =
    (c.requires.given.1 c.args.id c.in-Some.old.now (sym c.in-Some.ensures)).fits.fits

pub returns-in-Some : goal.returns-in-Some
returns-in-Some g c =
    with_given c.args.given.now c.args.shoves.now c.args.replaced.now
    (g.C.Copper.items c.args.c.now) c.args.id c.in-Some.old.now
    c.least_parted_of.result (c.requires.given.1 c.args.id c.in-Some.old.now (sym c.in-Some.ensures)).numbered
    (sym c.in-Some.ensures) c.least_parted_of.ensures

pub returns-in-None : goal.returns-in-None
returns-in-None g c =
    with_none c.args.given.now c.args.shoves.now c.args.replaced.now (g.C.Copper.items c.args.c.now) c.args.id
    (sym c.in-None.ensures)
