use Rattle.std.proofs.Common.{◌≤◌, length}
use Rattle.dsn_tree.specs.Groups.{AreItems}
use Rattle.dsn_tree.proofs.reading.+rest_of_group.Given as goal

abbrev pub decreases-rest_of_group : goal.decreases-rest_of_group
decreases-rest_of_group l = l.room

abbrev pub invariant-loop-token : goal.invariant-loop-token
invariant-loop-token l = (l.room ≤ 63) × AreItems l.fn.lexer l.room l.items l.lexer

abbrev pub decreases-loop-token : goal.decreases-loop-token
decreases-loop-token l = length l.lexer.rest
