use Rattle.std.proofs.Common.{subst, sym}
use Rattle.route_lattice.specs.Parts.{IsBoxWithin}
use Rattle.route_lattice.proofs.Outlines.{least_within}
use Rattle.route_lattice.proofs.ruled.least_box.Goals as goal

pub returns-clause-within : goal.returns-clause-within
returns-clause-within c =
    subst IsBoxWithin (sym c.grown_box.ensures)
    (least_within c.args.points.now c.requires.some c.requires.within)
