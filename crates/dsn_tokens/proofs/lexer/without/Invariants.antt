use Rattle.std.proofs.Common.{◌≡◌, ◌==◌, not, filter, take}
use Rattle.dsn_tokens.proofs.lexer.without.Given as goal

abbrev pub invariant-loop-b : goal.invariant-loop-b
invariant-loop-b l = l.rest.items ≡ filter (λ b. not (b == l.byte)) (take l.b-index l.bytes)
