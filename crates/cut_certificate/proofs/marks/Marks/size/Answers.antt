use Rattle.std.proofs.Common.{sym}
use Rattle.cut_certificate.proofs.Rows.{size_is}
use Rattle.cut_certificate.proofs.marks.Marks.size.Goals as goal

pub returns : goal.returns
returns c = sym (size_is c.self.inside.count c.self.inside.rows.items c.args.self.now c.self.view_is c.self.invariant)
