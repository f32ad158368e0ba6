use Rattle.std.proofs.Common.{take, All}
use Rattle.std.specs.Prelude.{Contains}
use Rattle.pcb_islands.specs.declared.net.Island.{Island}
use Rattle.cut_certificate.specs.inner.Checks.{IsAmong}
use Rattle.cut_certificate.proofs.make.ids_of.Given as goal

abbrev pub invariant-loop-other : goal.invariant-loop-other
invariant-loop-other l = record {
  sound : All (IsAmong l.others) l.ids.items;
  complete : All (λ (p : Island). All (Contains l.ids.items) p.items) (take l.other-index l.others);
}
