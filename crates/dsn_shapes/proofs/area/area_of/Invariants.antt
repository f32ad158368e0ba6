use Rattle.std.proofs.Common.{◌≡◌, take}
use Rattle.std.specs.Prelude.{map}
use Rattle.dsn_shapes.specs.declared.shape.Rim.{Rim}
use Rattle.dsn_shapes.proofs.area.area_of.Given as goal

abbrev pub invariant-loop-rim : goal.invariant-loop-rim
invariant-loop-rim l = l.loops ≡ map (λ (r : Rim). r.points) (take l.rim-index l.rims)
