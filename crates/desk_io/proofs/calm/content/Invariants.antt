use Rattle.std.proofs.Common.{◌≡◌, take}
use Rattle.std.specs.Option.{option_copied}
use Rattle.std.specs.FinMap.{get}
use Rattle.desk_io.specs.Memory.{files_of}
use Rattle.desk_io.proofs.calm.content.Given as goal

-- the last pair of that name so far
abbrev pub invariant-loop-pair : goal.invariant-loop-pair
invariant-loop-pair l = option_copied l.found ≡ get (files_of (take l.pair-index l.files)) l.name
