use Rattle.std.proofs.Common.{◌≡◌, ◌++◌, take}
use Rattle.std.specs.Prelude.{map}
use Rattle.pcb_model.specs.Pieces.{wire_piece}
use Rattle.dsn_design.proofs.edges.push_chain.Given as goal

abbrev pub invariant-loop-layer : goal.invariant-loop-layer
invariant-loop-layer l =
    l.pieces ≡ l.initial.pieces ++ map (λ layer. wire_piece layer l.width l.chain) (take l.layer-index l.layers)
