use Rattle.std.proofs.Common.{◌≡◌, drop}
use Rattle.std.specs.List.{list_any}
use Rattle.pcb_model.specs.declared.item.Piece.{Piece}
use Rattle.std.proofs.Common.{◌==◌}
use Rattle.route_lattice.proofs.near.has_copper.Given as goal

abbrev pub invariant-loop-q : goal.invariant-loop-q
invariant-loop-q l =
    list_any (λ (q : Piece). q.layer == l.layer) (drop l.q-index l.pieces)
    ≡ list_any (λ (q : Piece). q.layer == l.layer) l.pieces
