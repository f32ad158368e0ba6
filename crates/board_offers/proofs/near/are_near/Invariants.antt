use Rattle.std.proofs.Common.{◌^◌, take, All}
use Rattle.geo_kernel.specs.Plane.{IsWithin}
use Rattle.board_offers.proofs.near.are_near.Given as goal

abbrev pub invariant-loop-p : goal.invariant-loop-p
invariant-loop-p l = All (IsWithin (2 ^ 29)) (take l.p-index l.points)
