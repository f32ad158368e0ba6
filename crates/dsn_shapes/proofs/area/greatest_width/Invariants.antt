use Rattle.std.proofs.Common.{◌≡◌, take, max}
use Rattle.std.specs.Prelude.{fold}
use Rattle.dsn_shapes.specs.declared.shape.Rim.{Rim}
use Rattle.dsn_shapes.proofs.area.greatest_width.Given as goal

abbrev pub invariant-loop-rim : goal.invariant-loop-rim
invariant-loop-rim l = l.greatest ≡ fold (λ w (r : Rim). max w r.width) 0 (take l.rim-index l.rims)
