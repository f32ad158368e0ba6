use Rattle.route_lattice.specs.Mesh.{node_count}
use Rattle.cut_check.specs.Marks.{IsBlank}
use Rattle.route_check.specs.inner.Kept.{AreAllJudged}
use Rattle.route_check.proofs.cuts.first_false_cut.Given as goal

abbrev pub invariant-loop-net : goal.invariant-loop-net
invariant-loop-net g l = IsBlank (node_count l.on.lat) l.marks.items
    × AreAllJudged l.on.d l.on.lat l.on.items l.found l.nets l.net l.least
