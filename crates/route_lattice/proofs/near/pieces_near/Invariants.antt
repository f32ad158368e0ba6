use Rattle.std.proofs.Common.{◌≡◌, drop}
use Rattle.std.specs.List.{list_all}
use Rattle.pcb_model.specs.declared.item.Piece.{Piece}
use Rattle.route_lattice.specs.Near.{is_spine_near_at}
use Rattle.route_lattice.proofs.near.pieces_near.Given as goal

abbrev pub invariant-loop-q : goal.invariant-loop-q
invariant-loop-q l =
    list_all (λ (q : Piece). is_spine_near_at l.by q.spine) (drop l.q-index l.pieces)
    ≡ list_all (λ (q : Piece). is_spine_near_at l.by q.spine) l.pieces
