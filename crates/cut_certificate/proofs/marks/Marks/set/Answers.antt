use Rattle.std.proofs.Common.{arith}
use Rattle.cut_certificate.proofs.Rows.{row_there, set_mark}
use Rattle.cut_certificate.proofs.marks.Marks.set.Goals as goal

pub index_mut-requires : goal.index_mut-requires
index_mut-requires c = omega (
  arith,
  row_there c.self.inside.count c.self.inside.rows.items c.args.self.now c.self.view_is c.self.invariant c.args.node
      c.requires,
  c.self.inside.rows.ok,
)

pub returns : goal.returns
returns c =
    set_mark c.self.inside.count c.self.inside.rows.items c.args.self.now c.self.view_is c.self.invariant c.args.node
    c.index_mut.result.now c.set.new.self c.requires c.index_mut.ensures.value c.in_ok-set.ensures
