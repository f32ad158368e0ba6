use Rattle.std.proofs.Common.{refl, arith}
use Rattle.cut_certificate.specs.Border.{AreInOrder}
use Rattle.cut_certificate.proofs.Each.{unless, refused}
use Rattle.cut_certificate.proofs.Search.{order_from_next, before_more, not_before}
use Rattle.cut_certificate.proofs.border.in_order.Goals as goal

pub loop-k-init : goal.loop-k-init
loop-k-init c = record { above = omega arith; next = λ j d h. absurd (omega (arith, h)) }

pub loop-k-preserved : goal.loop-k-preserved
loop-k-preserved c = record {
  above = omega arith;
  next = before_more c.args.blocked.now c.loop-k.k c.loop-k.invariant.above c.loop-k-test.true _ _
      (c.is_before.ensures.0 c.if-not-is_before.false) c.loop-k.invariant.next;
}

pub returns-then-not-is_before : goal.returns-then-not-is_before
returns-then-not-is_before c =
    refused (AreInOrder c.args.blocked.now)
    (not_before c.args.blocked.now c.loop-k.k c.loop-k.invariant.above c.loop-k-test.true _ _
    (unless c.is_before.result _ c.is_before.ensures c.if-not-is_before.true))

pub returns : goal.returns
returns c = (
  λ _. order_from_next c.args.blocked.now
      (λ j d h. c.loop-k.invariant.next j d (omega (arith, h, c.loop-k-test.false))),
  λ _. refl,
)
