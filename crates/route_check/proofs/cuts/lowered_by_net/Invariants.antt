use Rattle.route_lattice.specs.Mesh.{node_count}
use Rattle.cut_check.specs.Marks.{IsBlank}
use Rattle.route_check.specs.inner.Kept.{AreJudged}
use Rattle.route_check.proofs.cuts.lowered_by_net.Given as goal

abbrev pub invariant-loop-k : goal.invariant-loop-k
invariant-loop-k g l = IsBlank (node_count l.on.lat) l.marks.items
    × AreJudged l.on.d l.on.lat l.on.items l.own l.cuts l.k l.fn.bound l.least
