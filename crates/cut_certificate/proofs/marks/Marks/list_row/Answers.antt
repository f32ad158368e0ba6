use Rattle.cut_certificate.proofs.Rows.{listed_row}
use Rattle.cut_certificate.proofs.marks.Marks.list_row.Goals as goal

pub returns : goal.returns
returns c =
    listed_row c.args.self.now c.args.row c.end_of-last.result c.list_between.new.nodes c.end_of-last.ensures.below
    c.end_of-last.ensures.whole c.in_ok-list_between.ensures
