use Rattle.std.proofs.Common.{ℕ, ◌<◌, All, Some, None, take, length}
use Rattle.pcb_model.specs.Bounds.{IsValue, AreValuesWithin}
use Rattle.pcb_model.specs.Greatest.{IsPairCovered}
use Rattle.pcb_model.proofs.greatest.greatest_clearance.Given as goal

abbrev pub invariant-loop-net : goal.invariant-loop-net
invariant-loop-net l = record {
  value : IsValue l.d l.greatest;
  none : AreValuesWithin l.d None l.greatest;
  nets : (n : ℕ) → n < l.net → AreValuesWithin l.d (Some n) l.greatest;
}

abbrev pub invariant-loop-p : goal.invariant-loop-p
invariant-loop-p l = record {
  value : IsValue l.d l.greatest;
  none : AreValuesWithin l.d None l.greatest;
  nets : (n : ℕ) → n < length l.d.nets → AreValuesWithin l.d (Some n) l.greatest;
  pairs : All (IsPairCovered l.d l.greatest) (take l.p-index l.d.pairs);
}
