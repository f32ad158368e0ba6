use Rattle.std.proofs.Common.{◌≡◌, drop}
use Rattle.dsn_tree.specs.Heads.{children, find_at, is_headed}
use Rattle.dsn_tree.proofs.heads.children.Given as goal

abbrev pub invariant-loop-i : goal.invariant-loop-i
invariant-loop-i l = find_at (is_headed l.head) l.i (drop l.i l.all) ≡ children l.tree l.head l.from
