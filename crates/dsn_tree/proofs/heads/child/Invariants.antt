use Rattle.std.proofs.Common.{◌≡◌, drop}
use Rattle.std.specs.List.{find}
use Rattle.dsn_tree.specs.Heads.{child, is_headed}
use Rattle.dsn_tree.proofs.heads.child.Given as goal

abbrev pub invariant-loop-item : goal.invariant-loop-item
invariant-loop-item l = find (is_headed l.head) (drop l.item-index l.all) ≡ child l.tree l.head
