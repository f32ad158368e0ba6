use Rattle.cut_certificate.proofs.Rows.{no_rows, blanks_more}
use Rattle.cut_certificate.proofs.marks.blank_rows.Goals as goal

pub loop-row-init : goal.loop-row-init
loop-row-init c = no_rows c.new-rows.result.items c.new-rows.ensures.items

pub loop-row-preserved : goal.loop-row-preserved
loop-row-preserved c =
    blanks_more c.loop-row._row c.loop-row.rows.items c.push.new.self.items c.new-row.result c.loop-row.invariant
    c.in_ok-push.ensures.items c.new-row.ensures
