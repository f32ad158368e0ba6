use Rattle.std.proofs.Common.{◌≡◌, take}
use Rattle.report_form.specs.Form.{line_ends}
use Rattle.report_form.proofs.report.line_at.Given as goal

abbrev pub invariant-loop-byte : goal.invariant-loop-byte
invariant-loop-byte l = l.ends ≡ line_ends (take l.byte-index l.front)
