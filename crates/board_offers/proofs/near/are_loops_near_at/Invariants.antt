use Rattle.std.proofs.Common.{◌^◌, take, map, List, All}
use Rattle.geo_kernel.specs.declared.point.Point.{Point}
use Rattle.geo_kernel.specs.Plane.{IsWithin}
use Rattle.geo_kernel.specs.Moved.{moved}
use Rattle.board_offers.proofs.near.are_loops_near_at.Given as goal

abbrev pub invariant-loop-points : goal.invariant-loop-points
invariant-loop-points l =
    All (λ (ps : List Point). All (IsWithin (2 ^ 29)) (map (moved l.at) ps)) (take l.points-index l.loops)
