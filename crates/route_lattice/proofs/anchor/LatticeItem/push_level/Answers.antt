use Rattle.route_lattice.proofs.Gaining.{gains_first, gains_more, gains_all}
use Rattle.route_lattice.proofs.anchor.LatticeItem.push_level.Goals as goal

pub loop-row-init : goal.loop-row-init
loop-row-init c = gains_first _ _ _ _

pub loop-row-preserved : goal.loop-row-preserved
loop-row-preserved c = gains_more _ _ _ _ _ _ _ c.loop-row.invariant c.in_ok-push_row.ensures

pub returns : goal.returns
returns c = gains_all _ _ _ _ _ _ _ c.loop-row-test.false c.loop-row.invariant
