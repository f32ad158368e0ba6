use Rattle.std.proofs.Common.{ℕ, Vec, Global, sym, ◌∙◌, ap, subst, arith}
use Rattle.std.proofs.lemmas.Result.{on_ok_weaker}
use Rattle.ses_writer.specs.Words.{Appends}
use Rattle.route_report.proofs.Stretched.{begins, ends, goes_further}
use Rattle.route_report.proofs.stretches.put_stretches_from.Goals as goal
use Rattle.route_report.proofs.stretches.put_stretches_from.Goals.{then-not-goes_on+in_ok-put_stretch, else-not-goes_on}

pub loop-next-preserved : goal.loop-next-preserved
loop-next-preserved c = elim c.if-not-goes_on.branch [
  | then-not-goes_on+in_ok-put_stretch w ↦
      begins c.args.lat.now c.loop-next.first c.loop-next.last c.args.others.now c.loop-next.next-index _ _ _ _ _
      c.loop-next-test.true c.loop-next.invariant (sym c.goes_on.ensures ∙ w.if-not-goes_on.true) w.first-is
      w.last-is
      (subst (λ (v : Vec ℕ Global). Appends c.loop-next.out.items v.items _) (sym w.out-is) w.in_ok-put_stretch.ensures)
  | else-not-goes_on w ↦
      goes_further c.args.lat.now c.loop-next.first c.loop-next.last c.args.others.now c.loop-next.next-index _ _ _ _ _
      c.loop-next-test.true c.loop-next.invariant (sym c.goes_on.ensures ∙ w.if-not-goes_on.false) w.first-is
      w.last-is (ap (λ (v : Vec ℕ Global). v.items) w.out-is)
]

pub returns : goal.returns
returns c = on_ok_weaker c.put_stretch-2.result
    (ends c.args.lat.now c.loop-next.first c.loop-next.last c.args.others.now c.loop-next.next-index
    c.args.out.now.items c.loop-next.out.items c.put_stretch-2.new.out.items _
    (omega (arith, c.loop-next-test.false)) c.loop-next.invariant) c.put_stretch-2.ensures
