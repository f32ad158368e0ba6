use Rattle.cut_certificate.proofs.Rows.{size_of, none_marked}
use Rattle.cut_certificate.proofs.marks.Marks.new.Goals as goal

pub returns-clause-size : goal.returns-clause-size
returns-clause-size c = size_of c.args.count c.in_ok-rows.rows.items

pub returns-clause-none : goal.returns-clause-none
returns-clause-none c = none_marked c.args.count c.in_ok-rows.rows.items c.in_ok-rows.ensures.blank
