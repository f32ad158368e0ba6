use Rattle.std.proofs.Common.{◌^◌}
use Rattle.geo_kernel.proofs.Firsts.{either_still}
use Rattle.geo_kernel.proofs.Moves.{still_within}
use Rattle.geo_kernel.proofs.Segments.{first_says, second_says}
use Rattle.geo_kernel.proofs.keep.spine_touch_moved.Goals as goal

pub invariant_of-still-clause-moved_within : goal.invariant_of-still-clause-moved_within
invariant_of-still-clause-moved_within c = still_within (2 ^ 29) c.args.t.now c.requires.t_within

pub returns-then-is_spine : goal.returns-then-is_spine
returns-then-is_spine c = first_says c.is_spine.result c.is_spine.ensures c.if-is_spine.true

pub returns-else-is_spine : goal.returns-else-is_spine
returns-else-is_spine c =
    second_says c.is_spine.result c.either_inside.result c.is_spine.ensures c.if-is_spine.false
    (either_still _ c.args.t.now c.either_inside.result c.either_inside.ensures)
