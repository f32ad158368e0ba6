use Rattle.std.proofs.Common.{◌≡◌, ℕ, ◌+◌, ◌*◌, max, arith, sym, subst, refl}
use Rattle.geo_kernel.specs.Spine.{SpinesKeep}
use Rattle.geo_kernel.specs.declared.spine.Spine.TheVariants.{Chain}
use Rattle.pcb_model.proofs.pieces.chain_keeps.Goals as goal

pub returns : goal.returns
returns c =
    let F : ℕ → Type 0 = λ k. SpinesKeep (Chain c.args.points.now) c.args.r.now.spine k in
    let e : c.max.result ≡ max 1 (2 * c.args.c + c.args.width + c.args.r.now.width) =
    omega (arith, c.max.ensures) in (
      λ t. record { keep = λ l. subst F e (c.points_keep.ensures.0 t) },
      λ h. c.points_keep.ensures.1 (subst F (sym e) (h.keep c.if-layer-r.false)),
    )

pub returns-then-layer-r : goal.returns-then-layer-r
returns-then-layer-r c = (λ t. record { keep = λ l. absurd (c.if-layer-r.true l) }, λ h. refl)
