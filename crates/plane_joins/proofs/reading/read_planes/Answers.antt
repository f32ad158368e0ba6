use Rattle.std.proofs.Common.{◌≡◌, subst}
use Rattle.std.specs.Prelude.{None}
use Rattle.dsn_tree.specs.declared.tree.Tree.{Tree}
use Rattle.dsn_shapes.specs.Refusals.{least}
use Rattle.dsn_structure.specs.Header.{head_refusals}
use Rattle.plane_joins.specs.Reading.{ReadsPlanes}
use Rattle.plane_joins.proofs.Areas.{wanting_only}
use Rattle.plane_joins.proofs.reading.read_planes.Goals as goal

pub planes_of_tree-found-requires-clause-head : goal.planes_of_tree-found-requires-clause-head
planes_of_tree-found-requires-clause-head c =
    subst (λ (t : Tree). least (head_refusals t) ≡ None)
    (c.one_answer.ensures.trees c.args.text.now c.requires.readable.tree c.in-Ok.tree c.requires.readable.is
    c.in-Ok.ensures) c.requires.readable.unrefused

pub wanting-requires : goal.wanting-requires
wanting-requires c =
    wanting_only c.args.text.now c.requires.readable.tree c.in-Err.fault c.one_answer.ensures c.requires.readable.is
    c.in-Err.ensures

pub returns-in-Ok-clause-reads : goal.returns-in-Ok-clause-reads
returns-in-Ok-clause-reads c =
    λ pcb is. subst (λ (t : Tree). ReadsPlanes c.args.d.now t c.planes_of_tree-found.result)
    (c.one_answer.ensures.trees c.args.text.now c.in-Ok.tree pcb c.in-Ok.ensures is)
    c.planes_of_tree-found.ensures.reads
