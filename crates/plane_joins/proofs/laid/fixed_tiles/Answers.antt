use Rattle.std.proofs.Common.{sym, subst}
use Rattle.std.specs.Prelude.{All}
use Rattle.pcb_model.specs.Bounds.{IsItemFit}
use Rattle.pcb_model.specs.Copper.{Ascends}
use Rattle.plane_joins.proofs.Routed.{fixed_ascend, fixed_fit}
use Rattle.plane_joins.proofs.laid.fixed_tiles.Goals as goal

pub of-requires-clause-ascends : goal.of-requires-clause-ascends
of-requires-clause-ascends c = subst Ascends (sym c.as_slice.ensures) (fixed_ascend c.args.d.now c.requires)

pub of-requires-clause-fit : goal.of-requires-clause-fit
of-requires-clause-fit c = subst (All IsItemFit) (sym c.as_slice.ensures) (fixed_fit c.args.d.now c.requires)
