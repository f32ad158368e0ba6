use Rattle.std.proofs.Common.{◌≡◌, drop}
use Rattle.dsn_shapes.specs.Lists.{has_head, heads_of}
use Rattle.dsn_shapes.proofs.trees.has_head.Given as goal

abbrev pub invariant-loop-head : goal.invariant-loop-head
invariant-loop-head l = has_head (heads_of (drop l.head-index l.heads)) l.tree ≡ has_head (heads_of l.heads) l.tree
