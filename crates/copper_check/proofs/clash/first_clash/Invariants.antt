use Rattle.copper_check.specs.inner.Searching.{AreSearched}
use Rattle.copper_check.proofs.clash.first_clash.Given as goal

abbrev pub invariant-loop-a : goal.invariant-loop-a
invariant-loop-a g l = AreSearched l.d l.items l.bound l.a-index
