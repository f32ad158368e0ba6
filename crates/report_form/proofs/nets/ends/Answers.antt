use Rattle.std.proofs.Common.{sym, ◌∙◌}
use Rattle.report_form.proofs.Loops.{end_read, end_over, end_none}
use Rattle.report_form.proofs.nets.ends.Goals as goal

pub returns-then-is_empty : goal.returns-then-is_empty
returns-then-is_empty c = λ p h told page read.
    end_read p h c.args.nets.now told c.args.text.now c.in-Some.left.now page read
    (c.in-Some.ensures p.firsts read.nets read.kept) (sym c.is_empty.ensures ∙ c.if-is_empty.true)

pub returns-else-is_empty : goal.returns-else-is_empty
returns-else-is_empty c = λ p h told page read.
    end_over p h c.args.nets.now told c.args.text.now c.in-Some.left.now page read
    (c.in-Some.ensures p.firsts read.nets read.kept) (sym c.is_empty.ensures ∙ c.if-is_empty.false)

pub returns-in-None : goal.returns-in-None
returns-in-None c = λ p h told page read. end_none p h c.args.nets.now told c.args.text.now read
    (c.in-None.ensures p.firsts read.nets read.kept)
