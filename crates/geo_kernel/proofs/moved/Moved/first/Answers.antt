use Rattle.std.proofs.Common.{◌^◌}
use Rattle.geo_kernel.proofs.Moves.{moved_is_first, first_within}
use Rattle.geo_kernel.proofs.moved.Moved.first.Goals as goal

pub shifted-requires : goal.shifted-requires
shifted-requires c = (
  c.first_point.ensures.within,
  first_within (2 ^ 29) _ _
      (moved_is_first c.args.self.now.by c.args.self.now.spine.now c.first_point.result c.first_point.ensures.first)
      c.args.self.now.moved_within,
)

pub returns : goal.returns
returns c =
    rw c.shifted.ensures
    (moved_is_first c.args.self.now.by c.args.self.now.spine.now c.first_point.result c.first_point.ensures.first)
