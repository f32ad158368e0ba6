use Rattle.std.proofs.Common.{◌≡◌, ◌++◌, take}
use Rattle.std.specs.Prelude.{filter}
use Rattle.dsn_shapes.specs.Lists.{is_word}
use Rattle.dsn_structure.proofs.vias.push_names.Given as goal

abbrev pub invariant-loop-item : goal.invariant-loop-item
invariant-loop-item l = l.found ≡ l.initial.found ++ filter is_word (take l.item-index l.rest)
