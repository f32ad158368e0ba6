use Rattle.std.proofs.Common.{arith}
use Rattle.route_check.proofs.Kept.{told_all, told_none}
use Rattle.route_check.proofs.lines.islands_told.Goals as goal

pub returns-then-own-le1 : goal.returns-then-own-le1
returns-then-own-le1 c = told_none c.args.own.now (omega arith)

pub returns : goal.returns
returns c = told_all c.args.own.now (omega arith)
