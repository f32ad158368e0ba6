use Rattle.std.proofs.Common.{◌∷◌, drop}
use Rattle.plane_joins.specs.inner.Laying.{IsLaid, LeadsRibs, items_of}
use Rattle.plane_joins.proofs.taking.take_all.Given as goal

abbrev pub invariant-loop-c : goal.invariant-loop-c
invariant-loop-c l = record {
  laid : IsLaid l.d (l.t.p.now ∷ l.t.later.now) l.laid;
  leads : LeadsRibs l.d l.t.p.now (items_of l.d l.fn.laid) l.candidates (items_of l.d l.laid)
      (drop l.c-index l.candidates);
}
