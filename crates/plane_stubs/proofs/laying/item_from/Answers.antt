use Rattle.std.proofs.Common.{sym, subst}
use Rattle.pcb_model.specs.Bounds.{IsMetalFit}
use Rattle.plane_stubs.proofs.laying.item_from.Goals as goal

pub make_item-requires-clause-place : goal.make_item-requires-clause-place
make_item-requires-clause-place c =
    subst IsMetalFit (sym c.in_ok-copy.ensures) (c.requires.metal.well_laid 0).fits.metal_fits
