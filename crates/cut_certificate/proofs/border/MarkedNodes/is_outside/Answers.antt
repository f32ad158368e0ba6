use Rattle.cut_certificate.proofs.Marking.{outside}
use Rattle.cut_certificate.proofs.border.MarkedNodes.is_outside.Goals as goal

pub returns : goal.returns
returns g c =
    let s = c.args.self.now in
    outside s.marks.now s.nodes.now c.args.node c.has.result c.has.ensures s.marked s.unmarked
