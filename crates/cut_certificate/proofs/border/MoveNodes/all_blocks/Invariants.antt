use Rattle.std.proofs.Common.{take, All}
use Rattle.cut_certificate.specs.Border.{IsBlock}
use Rattle.cut_certificate.proofs.border.MoveNodes.all_blocks.Given as goal

abbrev pub invariant-loop-block : goal.invariant-loop-block
invariant-loop-block g l =
    All (IsBlock (g.M.Moves.graph l.self.on).at (g.M.Moves.graph l.self.on).arity (g.M.Shuts.shut_by l.self.on)
    l.self.nodes.now)
    (take l.block-index l.blocked)
