use Rattle.std.proofs.Common.{take}
use Rattle.wave_search.specs.inner.Passing.{AddsAll}
use Rattle.wave_search.proofs.stated.Pass.add_all.Given as goal

abbrev pub invariant-loop-v : goal.invariant-loop-v
invariant-loop-v l = AddsAll l.initial.self (take l.v-index l.fresh) l.place l.self
