use Rattle.std.proofs.Common.{◌^◌, ◌↔◌, IsTrue, subst}
use Rattle.geo_kernel.specs.declared.spine.Spine.{Spine}
use Rattle.geo_kernel.specs.Spine.{SpinesKeep}
use Rattle.geo_kernel.proofs.Moves.{spine_stays, still_within}
use Rattle.geo_kernel.proofs.Solid.{stays_outside}
use Rattle.geo_kernel.proofs.keep.spine_keeps.Goals as goal

pub spine_keeps_moved-requires-clause-moved_within : goal.spine_keeps_moved-requires-clause-moved_within
spine_keeps_moved-requires-clause-moved_within c = still_within (2 ^ 29) c.args.s.now c.requires.s_within

pub returns-clause-keeps : goal.returns-clause-keeps
returns-clause-keeps c =
    subst (λ (s : Spine). IsTrue c.spine_keeps_moved.result ↔ SpinesKeep s c.args.t.now c.args.k)
    (spine_stays c.args.s.now) c.spine_keeps_moved.ensures

pub returns-clause-solid : goal.returns-clause-solid
returns-clause-solid c =
    λ t some simple. stays_outside c.args.s.now c.args.t.now c.args.k some simple
    (subst (λ (s : Spine). SpinesKeep s c.args.t.now c.args.k) (spine_stays c.args.s.now)
    (c.spine_keeps_moved.ensures.0 t))
