use Rattle.std.proofs.Common.{sym, ap}
use Rattle.geo_kernel.specs.declared.spine.Spine.TheVariants.{Area}
use Rattle.geo_kernel.proofs.Moves.{inside_told, inside_still, still_loops_movable}
use Rattle.geo_kernel.proofs.interior.inside.Goals as goal

pub invariant_of-area-clause-movable : goal.invariant_of-area-clause-movable
invariant_of-area-clause-movable c = rw c.as_slice.ensures (still_loops_movable _ c.requires.loops_within)

pub returns : goal.returns
returns c = inside_still c.args.p (Area c.args.loops.now) _
    (inside_told c.args.p _ (Area c.args.loops.now) _ (ap Area (sym c.as_slice.ensures)) _ c.is_odd_area.ensures)
