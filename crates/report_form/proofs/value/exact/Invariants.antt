use Rattle.std.proofs.Common.{◌≡◌, take}
use Rattle.report_form.specs.Form.{value}
use Rattle.report_form.proofs.value.exact.Given as goal

abbrev pub invariant-loop-byte : goal.invariant-loop-byte
invariant-loop-byte l = l.n ≡ value (take l.byte-index l.digits)
