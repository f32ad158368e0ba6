use Rattle.std.proofs.Common.{◌^◌, Any}
use Rattle.geo_kernel.specs.Plane.{IsWithin}
use Rattle.geo_kernel.specs.Close.{IsClose}
use Rattle.geo_kernel.proofs.Paths.{LeftOver}
use Rattle.geo_kernel.proofs.close.CloseTo.is_path.Given as goal

abbrev pub invariant-loop-p : goal.invariant-loop-p
invariant-loop-p l =
    IsWithin (2 ^ 29) l.last
    × LeftOver (Any (IsClose l.self.how l.self.k.value (record { from = l.g.from.at; to = l.g.to.at }))) l.path.start
    l.last l.path.rest.now l.p-index
