-- The nm of a unit of length.
use Rattle.std.specs.Prelude.{ℕ}
use Rattle.geo_kernel.specs.declared.unit.Unit.{Unit}
use Rattle.geo_kernel.specs.declared.unit.Unit.TheVariants.{Inch, Mil, Cm, Mm, Um}

abbrev pub unit_nm : Unit → ℕ
unit_nm Inch = 25400000
unit_nm Mil = 25400
unit_nm Cm = 10000000
unit_nm Mm = 1000000
unit_nm Um = 1000
