use Rattle.plane_joins.proofs.Growing.{laid_first}
use Rattle.plane_joins.proofs.taking.lay.Goals as goal

pub take_planes-requires-clause-laid : goal.take_planes-requires-clause-laid
take_planes-requires-clause-laid c =
    laid_first c.args.d.now c.requires.sound c.args.planes.now c.in_ok-laid.laid c.in_ok-laid.ensures
