use Rattle.std.proofs.Common.{◌↔◌, IsTrue, subst}
use Rattle.geo_kernel.specs.declared.spine.Spine.{Spine}
use Rattle.geo_kernel.specs.Spine.{SpinesTouch}
use Rattle.dsn_design.proofs.usable.covers_on.Goals as goal

pub returns : goal.returns
returns c =
    let p = c.args.p.now in
    let t = subst (λ (s : Spine). IsTrue c.spine_touch.result ↔ SpinesTouch s p.spine p.width) c.requires.centre_is
    c.spine_touch.ensures in (
      λ r. (c.if-p-layer.false, t.0 r),
      λ h. t.1 h.1,
    )
