-- A count of calls.
use Rattle.std.specs.Prelude.{ℕ}
use Rattle.desk_io.specs.declared.count.Count.{Count}

-- its number
abbrev pub count_of : Count → ℕ
count_of count = count.number
