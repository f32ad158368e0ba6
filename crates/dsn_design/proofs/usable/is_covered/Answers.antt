use Rattle.std.proofs.Common.{◌∙◌, refl, sym, true≢false}
use Rattle.pcb_model.specs.Bounds.{IsFit}
use Rattle.pcb_model.specs.declared.item.Piece.{Piece}
use Rattle.dsn_design.specs.Usable.{CoversOn}
use Rattle.dsn_design.proofs.Loops.{any_at, at_place, front_more, none_left}
use Rattle.dsn_design.proofs.usable.is_covered.Goals as goal

pub covers_on-requires-clause-fit : goal.covers_on-requires-clause-fit
covers_on-requires-clause-fit c =
    at_place IsFit c.args.all.now c.requires.fit c.loop-r.r-index c.r-item.result c.loop-r-test.true c.r-item.is

pub loop-r-preserved : goal.loop-r-preserved
loop-r-preserved c =
    front_more (λ (r : Piece). ¬ (CoversOn c.args.p.now.layer r)) c.args.all.now c.loop-r.r-index c.r-item.result
    c.loop-r-test.true c.r-item.is c.loop-r.invariant
    (λ h. true≢false (sym (c.covers_on.ensures.1 h) ∙ c.if-covers_on.false))

pub returns-then-covers_on : goal.returns-then-covers_on
returns-then-covers_on c = (
  λ t. any_at (CoversOn c.args.p.now.layer) c.args.all.now c.loop-r.r-index c.r-item.result c.loop-r-test.true
      c.r-item.is (c.covers_on.ensures.0 c.if-covers_on.true),
  λ h. refl,
)

pub returns : goal.returns
returns c = (
  λ t. absurd (true≢false (sym t)),
  λ h. absurd (none_left (CoversOn c.args.p.now.layer) c.args.all.now c.loop-r.r-index c.loop-r-test.false
      c.loop-r.invariant h),
)
