use Rattle.std.proofs.Common.{◌≡◌, ◌≤◌, ◌^◌, take, map, All}
use Rattle.pcb_model.specs.Pieces.{moved_piece}
use Rattle.pcb_model.specs.Near.{IsPieceIn, IsBoxWithin, extent_of}
use Rattle.pcb_model.proofs.near.Extent.of_moved.Given as goal

abbrev pub invariant-loop-p : goal.invariant-loop-p
invariant-loop-p l = record {
  each : All (λ q. IsPieceIn l.extent (moved_piece l.by q)) (take l.p-index l.ps);
  width_within : l.extent.width ≤ 2 ^ 28;
  within : IsBoxWithin (2 ^ 29) l.extent.bounds;
  least : l.extent ≡ extent_of (map (moved_piece l.by) (take l.p-index l.ps));
}
