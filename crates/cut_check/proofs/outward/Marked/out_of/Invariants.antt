use Rattle.std.proofs.Common.{◌≤◌}
use Rattle.cut_check.specs.inner.Outs.{AddsOuts}
use Rattle.cut_check.proofs.outward.Marked.out_of.Given as goal

abbrev pub invariant-loop-i : goal.invariant-loop-i
invariant-loop-i g l =
    AddsOuts (g.M.Moves.graph l.self.moves) l.self.nodes l.node l.i l.count × (l.count ≤ l.i)
