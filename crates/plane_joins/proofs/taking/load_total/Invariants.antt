use Rattle.std.proofs.Common.{◌≡◌, ◌+◌, ◌*◌, ◌≤◌, ◌^◌, length, take}
use Rattle.std.specs.Prelude.{sum_by}
use Rattle.plane_joins.specs.Planes.{candidates}
use Rattle.plane_joins.proofs.taking.load_total.Given as goal

abbrev pub invariant-loop-i : goal.invariant-loop-i
invariant-loop-i l = record {
  counted : l.total
      ≡ length l.d.fixed + length l.d.free + sum_by (λ p. length (candidates l.d p)) (take l.i l.planes);
  small : l.total ≤ 2 ^ 65 + l.i * 2 ^ 63;
}
