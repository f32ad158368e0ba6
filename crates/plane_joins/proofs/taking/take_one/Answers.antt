use Rattle.std.proofs.Common.{◌∷◌, inl, inr, true≢false, refl, sym, ◌∙◌}
use Rattle.std.proofs.lemmas.Result.{on_ok_weaker}
use Rattle.plane_joins.proofs.Routed.{laid_serves, rib_held, rib_told}
use Rattle.plane_joins.proofs.taking.take_one.Goals as goal

pub is_rib-requires-clause-serves : goal.is_rib-requires-clause-serves
is_rib-requires-clause-serves c =
    laid_serves c.args.d.now c.requires.sound (c.args.t.now.p.now ∷ c.args.t.now.later.now) c.args.laid.now
    c.requires.laid

pub returns-then-is_rib-clause-one : goal.returns-then-is_rib-clause-one
returns-then-is_rib-clause-one c =
    on_ok_weaker c.keep.result
    (λ e. inl (
      rib_told c.args.d.now c.args.t.now.p.now c.args.t.now.later.now c.args.laid.now c.requires.laid c.args.c
          (c.is_rib.ensures.0 c.if-is_rib.true),
      e,
    )) c.keep.ensures.more

pub returns-else-is_rib-clause-one : goal.returns-else-is_rib-clause-one
returns-else-is_rib-clause-one c =
    inr (
      λ rib. absurd (true≢false
          (sym (c.is_rib.ensures.1
          (rib_held c.args.d.now c.args.t.now.p.now c.args.t.now.later.now c.args.laid.now c.requires.laid c.args.c
          rib)) ∙ c.if-is_rib.false)),
      refl,
    )
