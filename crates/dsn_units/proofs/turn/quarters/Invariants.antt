use Rattle.std.proofs.Common.{◌≡◌, ◌^◌}
use Rattle.geo_kernel.specs.Plane.{IsWithin}
use Rattle.dsn_units.specs.Turn.{quarters}
use Rattle.dsn_units.proofs.turn.quarters.Given as goal

abbrev pub invariant-loop-n : goal.invariant-loop-n
invariant-loop-n l = (l.turned ≡ quarters l.n l.fn.p) × IsWithin (2 ^ 36) l.turned
