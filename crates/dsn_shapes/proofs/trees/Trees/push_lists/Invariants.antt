use Rattle.std.proofs.Common.{◌≡◌, ◌++◌, take}
use Rattle.std.specs.Prelude.{filter}
use Rattle.dsn_shapes.specs.Lists.{has_head, heads_of}
use Rattle.dsn_shapes.proofs.trees.Trees.push_lists.Given as goal

abbrev pub invariant-loop-item : goal.invariant-loop-item
invariant-loop-item l = l.self ≡ l.initial.self ++ filter (has_head (heads_of l.heads)) (take l.item-index l.item-items)
