use Rattle.std.proofs.Common.{ℕ, subst}
use Rattle.cut_certificate.specs.inner.Marks.{AreListed, fill_of}
use Rattle.cut_certificate.proofs.Flooding.{flood_ends}
use Rattle.cut_certificate.proofs.sound.SoundMoves.flood_marked.Goals as goal

pub returns-clause-reach : goal.returns-clause-reach
returns-clause-reach g c =
    let f = fill_of c.mark_reached.new.front in
    flood_ends (g.M.Moves.graph c.args.self.now) c.args.starts.now f c.in_ok-mark_reached.ensures.flood
    c.in_ok-mark_reached.ensures.done c.in_ok-nodes.nodes
    (subst (λ (n : ℕ). AreListed f.marks n c.in_ok-nodes.nodes) c.in_ok-mark_reached.ensures.flood.size
    c.in_ok-nodes.ensures)
