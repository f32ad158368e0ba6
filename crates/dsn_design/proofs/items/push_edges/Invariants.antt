use Rattle.std.proofs.Common.{◌≡◌, ◌++◌, take}
use Rattle.std.specs.Prelude.{map}
use Rattle.dsn_design.specs.Items.{edge_item}
use Rattle.dsn_design.proofs.items.push_edges.Given as goal

abbrev pub invariant-loop-bound : goal.invariant-loop-bound
invariant-loop-bound l = l.items ≡ l.initial.items ++ map (edge_item l.n) (take l.bound-index l.bounds)
