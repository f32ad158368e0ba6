use Rattle.std.proofs.Common.{◌≡◌, ◌≤◌, ◌*◌}
use Rattle.std.specs.Prelude.{unsigned_abs}
use Rattle.dsn_units.specs.Turn.{term, alternating}
use Rattle.dsn_units.proofs.turn.series.Given as goal

abbrev pub invariant-loop-k : goal.invariant-loop-k
invariant-loop-k l = record {
  next : l.next ≡ term l.first l.t l.shift l.k;
  near : l.next ≤ 1000000000000;
  sum : l.sum ≡ alternating (term l.first l.t l.shift) l.k;
  small : unsigned_abs l.sum ≤ l.k * 1000000000000;
}
