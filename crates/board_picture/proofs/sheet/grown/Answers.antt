use Rattle.std.proofs.Common.{rules}
use Rattle.board_picture.proofs.sheet.grown.Goals as goal

pub returns-clause-x0 : goal.returns-clause-x0
returns-clause-x0 c = let h = c.min.ensures.value in search (rules, h)

pub returns-clause-y0 : goal.returns-clause-y0
returns-clause-y0 c = let h = c.min-2.ensures.value in search (rules, h)

pub returns-clause-x1 : goal.returns-clause-x1
returns-clause-x1 c = let h = c.max.ensures.value in search (rules, h)

pub returns-clause-y1 : goal.returns-clause-y1
returns-clause-y1 c = let h = c.max-2.ensures.value in search (rules, h)
