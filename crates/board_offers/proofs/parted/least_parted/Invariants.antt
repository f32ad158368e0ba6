use Rattle.std.proofs.Common.{take}
use Rattle.board_offers.specs.Troubles.{FailsLeast}
use Rattle.board_offers.specs.inner.Searching.{StaysWithAll}
use Rattle.board_offers.proofs.parted.least_parted.Given as goal

abbrev pub invariant-loop-s : goal.invariant-loop-s
invariant-loop-s g l =
    FailsLeast (StaysWithAll l.given l.shoves l.replaced (g.C.Copper.items l.c) (take l.s-index l.shoves)) l.least
