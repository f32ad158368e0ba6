use Rattle.std.proofs.Common.{refl, sym, true≢false}
use Rattle.pcb_model.specs.declared.item.Piece.{Piece}
use Rattle.dsn_design.specs.Usable.{IsElsewhere}
use Rattle.dsn_design.proofs.Loops.{any_at, front_more, none_left}
use Rattle.dsn_design.proofs.usable.has_other.Goals as goal

pub loop-r-preserved : goal.loop-r-preserved
loop-r-preserved c =
    front_more (λ (r : Piece). ¬ (IsElsewhere c.args.p.now.layer r)) c.args.all.now c.loop-r.r-index c.r-item.result
    c.loop-r-test.true c.r-item.is c.loop-r.invariant (λ h. h c.if-p-r.false)

pub returns-then-p-r : goal.returns-then-p-r
returns-then-p-r c = (
  λ t. any_at (IsElsewhere c.args.p.now.layer) c.args.all.now c.loop-r.r-index c.r-item.result c.loop-r-test.true
      c.r-item.is c.if-p-r.true,
  λ h. refl,
)

pub returns : goal.returns
returns c = (
  λ t. absurd (true≢false (sym t)),
  λ h. absurd (none_left (IsElsewhere c.args.p.now.layer) c.args.all.now c.loop-r.r-index c.loop-r-test.false
      c.loop-r.invariant h),
)
