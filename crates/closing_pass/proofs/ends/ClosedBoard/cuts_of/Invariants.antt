use Rattle.std.proofs.Common.{◌≡◌}
use Rattle.closing_pass.proofs.Ending.{HaveCutsTo}
use Rattle.closing_pass.proofs.ends.ClosedBoard.cuts_of.Given as goal

abbrev pub invariant-loop-place : goal.invariant-loop-place
invariant-loop-place l = record {
  found : l.found ≡ l.fn.found;
  cuts : HaveCutsTo l.self.d l.self.lat l.self.via_cost l.self.items l.fn.found l.place l.cuts;
}
