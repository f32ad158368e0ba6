use Rattle.std.proofs.Common.{◌^◌, ◌↔◌, IsTrue, subst}
use Rattle.geo_kernel.specs.declared.spine.Spine.{Spine}
use Rattle.geo_kernel.specs.Spine.{SpinesTouch}
use Rattle.geo_kernel.proofs.Moves.{spine_stays, still_within}
use Rattle.geo_kernel.proofs.keep.spine_touch.Goals as goal

pub spine_touch_moved-requires-clause-moved_within : goal.spine_touch_moved-requires-clause-moved_within
spine_touch_moved-requires-clause-moved_within c = still_within (2 ^ 29) c.args.s.now c.requires.s_within

pub returns : goal.returns
returns c = subst (λ (s : Spine). IsTrue c.spine_touch_moved.result ↔ SpinesTouch s c.args.t.now c.args.k)
    (spine_stays c.args.s.now) c.spine_touch_moved.ensures
