use Rattle.std.proofs.Common.{◌≡◌, ℕ, ◌+◌, ◌*◌, max, arith, sym, subst, refl}
use Rattle.geo_kernel.specs.Spine.{SpinesKeep}
use Rattle.geo_kernel.specs.Moved.{moved_spine}
use Rattle.pcb_model.proofs.pieces.moved_piece_keeps.Goals as goal

pub returns : goal.returns
returns c =
    let F : ℕ → Type 0 = λ k. SpinesKeep (moved_spine c.args.by c.args.p.now.spine) c.args.r.now.spine k in
    let e : c.max.result ≡ max 1 (2 * c.args.c + c.args.p.now.width + c.args.r.now.width) =
    omega (arith, c.max.ensures) in (
      λ t. record { keep = λ l. subst F e (c.spine_keeps_moved.ensures.0 t) },
      λ h. c.spine_keeps_moved.ensures.1 (subst F (sym e) (h.keep c.if-p-r.false)),
    )

pub returns-then-p-r : goal.returns-then-p-r
returns-then-p-r c = (λ t. record { keep = λ l. absurd (c.if-p-r.true l) }, λ h. refl)
