use Rattle.std.proofs.Common.{take}
use Rattle.board_offers.specs.Troubles.{FailsLeast}
use Rattle.board_offers.specs.inner.Searching.{IsNamedThere}
use Rattle.board_offers.proofs.trouble.least_missing.Given as goal

abbrev pub invariant-loop-id : goal.invariant-loop-id
invariant-loop-id g l = FailsLeast (IsNamedThere (g.C.Copper.items l.c) (take l.id-index l.ids)) l.least
