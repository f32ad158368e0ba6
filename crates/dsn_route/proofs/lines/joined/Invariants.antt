use Rattle.std.proofs.Common.{◌≡◌, ℕ, List, take, flat_map}
use Rattle.std.specs.Borrow.{Bor}
use Rattle.dsn_route.proofs.lines.joined.Given as goal

abbrev pub invariant-loop-piece : goal.invariant-loop-piece
invariant-loop-piece l = l.line.items ≡ flat_map (λ (p : Bor (List ℕ)). p.now) (take l.piece-index l.pieces)
