use Rattle.wave_search.proofs.Kept.{AreBelow}
use Rattle.wave_search.proofs.rows.Rows.labelled.Given as goal

abbrev pub invariant-loop-v : goal.invariant-loop-v
invariant-loop-v l = AreBelow l.self l.v l.nodes.items
