use Rattle.std.proofs.Common.{◌^◌}
use Rattle.geo_kernel.proofs.Firsts.{either_still}
use Rattle.geo_kernel.proofs.Keeping.{keep_told}
use Rattle.geo_kernel.proofs.Moves.{still_within}
use Rattle.geo_kernel.proofs.keep.spine_keeps_moved.Goals as goal

pub invariant_of-still-clause-moved_within : goal.invariant_of-still-clause-moved_within
invariant_of-still-clause-moved_within c = still_within (2 ^ 29) c.args.t.now c.requires.t_within

pub returns-then-not-is_spine : goal.returns-then-not-is_spine
returns-then-not-is_spine c =
    keep_told _ c.args.t.now c.args.k c.is_spine.result c.either_inside.result c.is_spine.ensures
    c.if-not-is_spine.true (either_still _ c.args.t.now c.either_inside.result c.either_inside.ensures)
