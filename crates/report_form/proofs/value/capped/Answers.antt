use Rattle.std.proofs.Common.{◌≡◌, ◌+◌, ◌*◌, ◌-◌, min, get_or, ◌∙◌, arith}
use Rattle.report_form.proofs.Values.{capped_more}
use Rattle.report_form.proofs.value.capped.Goals.{then-more-from, else-more-from}
use Rattle.report_form.proofs.value.capped.Goals as goal

pub loop-byte-preserved : goal.loop-byte-preserved
loop-byte-preserved c =
    let here = c.loop-byte-test.true in
    let step = capped_more 18446744073709551615 c.args.digits.now c.loop-byte.byte-index c.loop-byte.n c.requires here
    c.loop-byte.invariant in
    let most = c.from-in-loop-byte-2.ensures in
    let digit = c.from-in-loop-byte.ensures in
    let number = c.from.ensures in
    let is : c.if-more-from.n ≡ min (c.loop-byte.n * 10 + (get_or c.args.digits.now c.loop-byte.byte-index 0 - 48))
    18446744073709551615 = elim c.if-more-from.branch [
      | then-more-from w ↦ omega (
        arith,
        w.if-more-from.true,
        w.n-is,
        most,
        digit,
        number,
      )
      | else-more-from w ↦ omega (arith, w.if-more-from.false, w.n-is, most, digit, number)
    ] in
    is ∙ step
