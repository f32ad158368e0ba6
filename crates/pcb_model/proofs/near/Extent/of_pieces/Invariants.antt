use Rattle.std.proofs.Common.{◌≡◌, ◌≤◌, ◌^◌, take, All}
use Rattle.pcb_model.specs.Near.{IsPieceIn, extent_of}
use Rattle.pcb_model.proofs.near.Extent.of_pieces.Given as goal

abbrev pub invariant-loop-p : goal.invariant-loop-p
invariant-loop-p l = record {
  each : All (IsPieceIn l.extent) (take l.p-index l.ps);
  width_within : l.extent.width ≤ 2 ^ 28;
  least : l.extent ≡ extent_of (take l.p-index l.ps);
}
