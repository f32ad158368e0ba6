use Rattle.std.proofs.Common.{drop}
use Rattle.plane_joins.specs.inner.Laying.{IsLaid, LeadsPlanes, items_of}
use Rattle.plane_joins.proofs.taking.take_planes.Given as goal

abbrev pub invariant-loop-i : goal.invariant-loop-i
invariant-loop-i l = record {
  laid : IsLaid l.d (drop l.i l.planes) l.laid;
  leads : LeadsPlanes l.d (items_of l.d l.fn.laid) l.planes (items_of l.d l.laid) (drop l.i l.planes);
}
