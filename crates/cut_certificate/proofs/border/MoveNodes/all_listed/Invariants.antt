use Rattle.std.proofs.Common.{ℕ, ◌<◌}
use Rattle.cut_certificate.specs.Border.{LeadsOut, IsListed}
use Rattle.cut_certificate.proofs.border.MoveNodes.all_listed.Given as goal

abbrev pub invariant-loop-i : goal.invariant-loop-i
invariant-loop-i g l = (index : ℕ) → index < l.i → LeadsOut (g.M.Moves.graph l.self.on).at l.self.nodes.now l.node index
    → IsListed l.blocked l.node index
