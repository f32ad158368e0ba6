use Rattle.route_lattice.specs.Mesh.{node_count}
use Rattle.cut_check.specs.inner.Marking.{AreMarked, Gains, IsBefore}
use Rattle.cut_check.proofs.marks.mark_stretch.Given as goal

abbrev pub invariant-loop-column : goal.invariant-loop-column
invariant-loop-column l = record {
  marked : AreMarked (node_count l.lat) l.marks.items l.nodes.items;
  gains : Gains (IsBefore l.lat l.s l.column) l.initial.nodes.items l.nodes.items;
}
