use Rattle.std.proofs.Common.{arith}
use Rattle.cut_certificate.proofs.Rows.{row_there, has_mark}
use Rattle.cut_certificate.proofs.marks.Marks.has.Goals as goal

pub index-requires : goal.index-requires
index-requires c = omega (
  arith,
  row_there c.self.inside.count c.self.inside.rows.items c.args.self.now c.self.view_is c.self.invariant c.args.node
      c.requires,
  c.self.inside.rows.ok,
)

pub returns : goal.returns
returns c =
    has_mark c.self.inside.count c.self.inside.rows.items c.args.self.now c.self.view_is c.self.invariant c.args.node
    c.index.result.now c.has.result c.requires c.index.ensures c.has.ensures
