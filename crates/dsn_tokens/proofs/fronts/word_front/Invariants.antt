use Rattle.std.proofs.Common.{◌≡◌, ◌≤◌, drop}
use Rattle.dsn_tokens.specs.Scanning.{word_rest}
use Rattle.dsn_tokens.proofs.fronts.word_front.Given as goal

abbrev pub invariant-loop-i : goal.invariant-loop-i
invariant-loop-i l =
    (word_rest l.quote l.open_bytes (drop l.i l.bytes) ≡ word_rest l.quote 0 l.bytes) × (l.open_bytes ≤ l.i)
