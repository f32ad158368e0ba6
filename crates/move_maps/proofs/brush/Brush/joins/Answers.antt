use Rattle.std.proofs.Common.{ℕ, List, ap, ◌∙◌}
use Rattle.std.specs.Prelude.{slice_index}
use Rattle.pcb_model.specs.declared.item.Piece.{Piece}
use Rattle.pcb_model.specs.Pieces.{padstack_pieces}
use Rattle.route_lattice.specs.Ways.{vias_of}
use Rattle.move_maps.specs.Spots.{join_layers}
use Rattle.move_maps.proofs.brush.Brush.joins.Goals as goal

pub returns : goal.returns
returns c =
    let t = c.args.self.now.group in let n = c.args.number in
    let stack = c.pieces.ensures
    ∙ ap (λ (vs : List ℕ). padstack_pieces t.d (slice_index vs n)) c.vias.ensures in
    c.join_layers.ensures
    ∙ ap (λ (ps : List Piece). join_layers ps c.args.from c.layer-to.result) stack
    ∙ ap (λ k. join_layers (padstack_pieces t.d (slice_index (vias_of t.d t.first) n)) c.args.from k) c.layer-to.ensures
