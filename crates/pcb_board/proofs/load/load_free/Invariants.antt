use Rattle.std.proofs.Common.{drop}
use Rattle.pcb_board.specs.inner.Loading.{AreLoaded}
use Rattle.pcb_board.proofs.load.load_free.Given as goal

abbrev pub invariant-loop-w : goal.invariant-loop-w
invariant-loop-w l = AreLoaded l.d (drop l.w-index l.d.free) l.loaded
