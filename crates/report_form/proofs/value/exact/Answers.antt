use Rattle.std.proofs.Common.{ℕ, ◌+◌, ◌*◌, ◌-◌, get_or, sym, ap, ◌∙◌, arith}
use Rattle.report_form.proofs.Peels.{digits}
use Rattle.report_form.proofs.Values.{digit_here, large_front, value_more}
use Rattle.report_form.proofs.value.exact.Goals as goal

pub returns-then-n-digit : goal.returns-then-n-digit
returns-then-n-digit c =
    let d = digit_here c.args.digits.now c.loop-byte.byte-index (digits c.args.digits.now c.requires)
    c.loop-byte-test.true in
    sym (large_front c.args.digits.now c.loop-byte.byte-index c.loop-byte.n c.requires c.loop-byte-test.true
    c.loop-byte.invariant (omega (arith, c.if-n-digit.true, c.from-digit.ensures, d.low, d.high)))

pub loop-byte-preserved : goal.loop-byte-preserved
loop-byte-preserved c =
    let step = value_more c.args.digits.now c.loop-byte.byte-index c.requires c.loop-byte-test.true in
    ap (λ (x : ℕ). c.loop-byte.n * 10 + x) c.from-digit.ensures
    ∙ ap (λ (x : ℕ). x * 10 + (get_or c.args.digits.now c.loop-byte.byte-index 0 - 48)) c.loop-byte.invariant ∙ sym step
