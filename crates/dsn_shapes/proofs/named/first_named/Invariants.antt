use Rattle.std.proofs.Common.{◌≡◌, drop}
use Rattle.std.specs.Prelude.{map}
use Rattle.std.specs.List.{position_from}
use Rattle.std.specs.Str.{bytes_eq}
use Rattle.dsn_shapes.specs.Names.{first_place}
use Rattle.dsn_shapes.proofs.named.first_named.Given as goal

abbrev pub invariant-loop-k : goal.invariant-loop-k
invariant-loop-k g l = position_from (λ n. bytes_eq n l.name) l.k (map g.T.Named.name (drop l.k l.values))
    ≡ first_place l.name (map g.T.Named.name l.values)
