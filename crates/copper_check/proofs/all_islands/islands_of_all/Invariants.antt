use Rattle.copper_check.specs.inner.Searching.{AreIslandsBelow}
use Rattle.copper_check.proofs.all_islands.islands_of_all.Given as goal

abbrev pub invariant-loop-net : goal.invariant-loop-net
invariant-loop-net g l = AreIslandsBelow l.d (g.C.Copper.items l.c) l.net l.found
