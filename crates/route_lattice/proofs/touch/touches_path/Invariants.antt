use Rattle.std.proofs.Common.{◌^◌, Any}
use Rattle.geo_kernel.specs.Plane.{IsWithin}
use Rattle.geo_kernel.specs.Spine.{Touches}
use Rattle.geo_kernel.proofs.Paths.{LeftOver}
use Rattle.route_lattice.proofs.touch.touches_path.Given as goal

abbrev pub invariant-loop-q : goal.invariant-loop-q
invariant-loop-q l =
    IsWithin (2 ^ 29) l.last × LeftOver (Any (Touches l.k (record { from = l.p; to = l.p }))) l.fn.start l.last l.points
    l.q-index
