use Rattle.std.proofs.Common.{◌≡◌, ◌<◌}
use Rattle.route_lattice.specs.Walks.{Hop, Opens}
use Rattle.cut_certificate.proofs.sound.SoundMoves.leads.Given as goal

abbrev pub invariant-loop-i : goal.invariant-loop-i
invariant-loop-i g l =
    (h : Hop) → Opens (g.M.Moves.graph l.self) l.from h → h.to ≡ l.to → h.index < l.i → ⊥
