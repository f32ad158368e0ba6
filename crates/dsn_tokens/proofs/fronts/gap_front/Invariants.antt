use Rattle.std.proofs.Common.{◌≡◌, drop, false}
use Rattle.dsn_tokens.specs.Scanning.{gap_rest}
use Rattle.dsn_tokens.proofs.fronts.gap_front.Given as goal

abbrev pub invariant-loop-i : goal.invariant-loop-i
invariant-loop-i l = gap_rest l.skips l.line (drop l.i l.bytes) ≡ gap_rest false l.fn.start l.bytes
