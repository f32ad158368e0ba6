use Rattle.std.proofs.Common.{take}
use Rattle.pcb_islands.specs.inner.Progress.{IsProgress}
use Rattle.pcb_islands.proofs.gather.Gatherer.gather_all.Given as goal

abbrev pub invariant-loop-k : goal.invariant-loop-k
invariant-loop-k g l =
    IsProgress l.self.d.now (g.C.Copper.items l.self.c.now) l.self.net (take l.k l.pins) l.found.items l.places
