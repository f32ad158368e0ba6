use Rattle.std.proofs.Common.{take}
use Rattle.route_lattice.specs.Mesh.{node_count}
use Rattle.cut_check.specs.Stretches.{IsOfSome}
use Rattle.cut_check.specs.inner.Marking.{AreMarked, Gains}
use Rattle.cut_check.proofs.marks.mark_all.Given as goal

abbrev pub invariant-loop-s : goal.invariant-loop-s
invariant-loop-s l = record {
  marked : AreMarked (node_count l.lat) l.marks.items l.nodes.items;
  gains : Gains (IsOfSome l.lat (take l.s-index l.runs)) l.initial.nodes.items l.nodes.items;
}
