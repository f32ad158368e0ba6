use Rattle.std.proofs.Common.{◌<◌}
use Rattle.std.specs.List.{AllAdjacentBelow}
use Rattle.cut_certificate.specs.Border.{IsBefore}
use Rattle.cut_certificate.proofs.border.in_order.Given as goal

abbrev pub invariant-loop-k : goal.invariant-loop-k
invariant-loop-k l = record {
  above : 0 < l.k;
  next : AllAdjacentBelow IsBefore l.blocked l.k;
}
