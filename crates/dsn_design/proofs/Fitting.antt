-- The pieces of shapes that fit, fit.
use Rattle.std.proofs.Common.{ℕ, List, [], ◌∷◌}
use Rattle.std.specs.Prelude.{All}
use Rattle.std.specs.List.{flat_map}
use Rattle.std.proofs.lemmas.List.Elements.{All-nil, All-append, All-head, All-tail, All-map}
use Rattle.pcb_model.specs.Bounds.{IsFit}
use Rattle.dsn_shapes.specs.declared.parts.LayerShape.{LayerShape}
use Rattle.dsn_shapes.specs.declared.parts.Stack.{Stack}
use Rattle.dsn_shapes.specs.Fits.{IsShapeFit}
use Rattle.dsn_wiring.specs.Layers.{layers_below}
use Rattle.dsn_design.specs.Copper.{piece_on, pieces_of, stack_pieces}
use Rattle.dsn_design.specs.Fit.{IsStackFit}

pub pieces_fit : (n : ℕ) (s : LayerShape) → IsShapeFit s → All IsFit (pieces_of n s)
unfolding pieces_of
pieces_fit n s h =
    All-map IsFit (piece_on s) (layers_below n s.layers)
    (λ k d l. record { well_formed = h.well_formed; within = h.within; width_within = h.width_within })

pub shapes_fit : (n : ℕ) (ss : List LayerShape) → All IsShapeFit ss → All IsFit (flat_map (pieces_of n) ss)
shapes_fit n [] h = All-nil IsFit
shapes_fit n (s ∷ ss) h =
    All-append IsFit (pieces_of n s) (flat_map (pieces_of n) ss) (pieces_fit n s (All-head IsShapeFit s ss h))
    (shapes_fit n ss (All-tail IsShapeFit s ss h))

pub stack_fit : (n : ℕ) (s : Stack) → IsStackFit s → All IsFit (stack_pieces n s)
unfolding stack_pieces
stack_fit n s h = shapes_fit n s.shapes h.shapes
