use Rattle.std.proofs.Common.{◌≡◌, ◌+◌, ℕ, length, subst, arith}
use Rattle.report_form.specs.inner.Halts.{PassesRead}
use Rattle.report_form.proofs.Steps.{passes_end}
use Rattle.report_form.proofs.Loops.{passes_on, passes_over, pass_shorter}
use Rattle.report_form.proofs.passes.after_passes.Goals as goal

pub returns-in-None : goal.returns-in-None
returns-in-None c = λ p h page at.
    passes_end p h c.loop-k.k c.loop-k.left.now (c.loop-k.invariant.read p h page at) c.in-None.ensures

pub loop-k-preserved : goal.loop-k-preserved
loop-k-preserved c =
    let gone = pass_shorter (c.loop-k.k + 1) c.in-Some.next.now c.loop-k.left.now c.in-Some.ensures in record {
      read = λ p h page at. passes_on p h c.loop-k.k c.loop-k.left.now c.in-Some.next.now page
          (c.loop-k.invariant.read p h page at) c.in-Some.ensures;
      shorter = omega (arith, gone, c.loop-k.invariant.shorter);
    }

pub returns : goal.returns
returns c = λ p h page at.
    let all : c.loop-k.k ≡ length c.args.text.now = omega arith in
    let none : length c.loop-k.left.now ≡ 0 = omega (arith, all, c.loop-k.invariant.shorter) in
    passes_over p h (length c.args.text.now) c.loop-k.left.now
    (subst (λ (n : ℕ). PassesRead p h n c.loop-k.left.now) all (c.loop-k.invariant.read p h page at)) none
