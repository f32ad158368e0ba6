use Rattle.std.proofs.Common.{◌^◌, take, All}
use Rattle.geo_kernel.specs.declared.point.Point.{Point}
use Rattle.geo_kernel.specs.Plane.{IsWithin}
use Rattle.geo_kernel.specs.Moved.{moved}
use Rattle.board_offers.proofs.near.are_near_at.Given as goal

abbrev pub invariant-loop-p : goal.invariant-loop-p
invariant-loop-p l = All (λ (p : Point). IsWithin (2 ^ 29) (moved l.at p)) (take l.p-index l.points)
