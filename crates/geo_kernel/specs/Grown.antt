-- What the private functions of `rect` give.
use Rattle.std.specs.Prelude.{List, ◌++◌}
use Rattle.geo_kernel.specs.declared.point.Point.{Point}
use Rattle.geo_kernel.specs.declared.point.Rect4.{Rect4}
use Rattle.geo_kernel.specs.Boxes.{IsLeastBox}

-- where r is the least box of some points, q is that of these and ps
pub record IsGrown (r q : Rect4) (ps : List Point) : Type 0 where
  pub grown : (seen : List Point) → IsLeastBox seen r → IsLeastBox (seen ++ ps) q
