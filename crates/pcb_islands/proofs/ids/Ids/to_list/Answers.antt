use Rattle.std.proofs.Common.{subst}
use Rattle.std.specs.List.Sorted.{IsStrictlyIncreasing}
use Rattle.std.proofs.lemmas.Map.Keys.{IsStrictlyIncreasing-from_sorted}
use Rattle.pcb_islands.proofs.ids.Ids.to_list.Goals as goal

pub returns-in_err-ids-clause-ascend : goal.returns-in_err-ids-clause-ascend
returns-in_err-ids-clause-ascend c =
    subst IsStrictlyIncreasing c.self.view_is (IsStrictlyIncreasing-from_sorted _ c.self.invariant)

pub returns-clause-ascend : goal.returns-clause-ascend
returns-clause-ascend c =
    subst IsStrictlyIncreasing c.self.view_is (IsStrictlyIncreasing-from_sorted _ c.self.invariant)
