use Rattle.std.proofs.Common.{◌∙◌, refl, sym, true≢false}
use Rattle.dsn_design.specs.Usable.{IsCovered}
use Rattle.dsn_design.proofs.Loops.{at_place, front_all, front_more}
use Rattle.dsn_design.proofs.usable.are_covered.Goals as goal

pub loop-p-preserved : goal.loop-p-preserved
loop-p-preserved c =
    front_more (IsCovered c.args.all.now) c.args.all.now c.loop-p.p-index c.p-item.result c.loop-p-test.true c.p-item.is
    c.loop-p.invariant (c.is_covered.ensures.0 c.if-not-is_covered.false)

pub returns-then-not-is_covered : goal.returns-then-not-is_covered
returns-then-not-is_covered c = (
  λ t. absurd (true≢false (sym t)),
  λ h. absurd (true≢false (sym (c.is_covered.ensures.1 (at_place (IsCovered c.args.all.now) c.args.all.now h
      c.loop-p.p-index c.p-item.result c.loop-p-test.true c.p-item.is)) ∙ c.if-not-is_covered.true)),
)

pub returns : goal.returns
returns c = (
  λ t. front_all (IsCovered c.args.all.now) c.args.all.now c.loop-p.p-index c.loop-p-test.false c.loop-p.invariant,
  λ h. refl,
)
