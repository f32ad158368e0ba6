use Rattle.std.proofs.Common.{◌≡◌, take}
use Rattle.std.specs.Prelude.{map}
use Rattle.dsn_shapes.specs.Lists.{heads_of}
use Rattle.dsn_shapes.proofs.named.names_of.Given as goal

abbrev pub invariant-loop-value : goal.invariant-loop-value
invariant-loop-value g l = heads_of l.names.items ≡ map g.T.Named.name (take l.value-index l.values)
