use Rattle.std.proofs.Common.{◌≡◌, ◌-◌, ◌^◌, take}
use Rattle.report_form.specs.Reading.{capped}
use Rattle.report_form.proofs.value.capped.Given as goal

abbrev pub invariant-loop-byte : goal.invariant-loop-byte
invariant-loop-byte l = l.n ≡ capped (2 ^ 64 - 1) (take l.byte-index l.digits)
