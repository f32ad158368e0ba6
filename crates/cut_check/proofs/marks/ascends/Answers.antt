use Rattle.std.proofs.Common.{ℕ, ◌≡◌, ◌+◌, ◌-◌, ◌<◌, refl, subst, arith}
use Rattle.std.specs.Prelude.{slice_index}
use Rattle.std.specs.List.Sorted.{IsStrictlyIncreasing}
use Rattle.cut_certificate.proofs.Each.{refused, rises_more}
use Rattle.cut_check.proofs.marks.ascends.Goals as goal

pub loop-k-init : goal.loop-k-init
loop-k-init c = record { above = omega arith; rises = λ j h. absurd (omega (arith, h)) }

pub loop-k-preserved : goal.loop-k-preserved
loop-k-preserved c = record {
  above = omega arith;
  rises = rises_more c.args.nodes.now c.loop-k.k c.loop-k.invariant.rises (λ i e.
      subst (λ (x : ℕ). slice_index c.args.nodes.now x < slice_index c.args.nodes.now c.loop-k.k)
      {x = c.loop-k.k - 1} (omega (arith, e)) (omega (arith, c.if-nodes-k.false)));
}

pub returns-then-nodes-k : goal.returns-then-nodes-k
returns-then-nodes-k c =
    refused (IsStrictlyIncreasing c.args.nodes.now) (λ up.
    let e : c.loop-k.k - 1 + 1 ≡ c.loop-k.k = omega (arith, c.loop-k.invariant.above) in
    let here = subst (λ (x : ℕ). slice_index c.args.nodes.now (c.loop-k.k - 1) < slice_index c.args.nodes.now x) e
    (up (c.loop-k.k - 1) (omega (arith, c.loop-k.invariant.above, c.loop-k-test.true))) in
    omega (arith, here, c.if-nodes-k.true))

pub returns : goal.returns
returns c = (λ _ j h. c.loop-k.invariant.rises j (omega (arith, h, c.loop-k-test.false)), λ _. refl)
