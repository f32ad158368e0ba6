-- The copper of shapes and padstacks, a piece for each layer.
use Rattle.std.specs.Prelude.{ℕ, List, map}
use Rattle.std.specs.List.{flat_map, range_with_len}
use Rattle.pcb_model.specs.declared.item.Piece.{Piece}
use Rattle.dsn_shapes.specs.declared.parts.LayerShape.{LayerShape}
use Rattle.dsn_shapes.specs.declared.parts.Stack.{Stack}
use Rattle.dsn_wiring.specs.Layers.{layers_below}

-- the numbers below n, ascending
abbrev pub below : ℕ → List ℕ
below n = range_with_len 0 n

abbrev pub piece_on : LayerShape → ℕ → Piece
piece_on s layer = record { layer = layer; spine = s.spine; width = s.width }

-- the shape on each of its layers, where the board has n
unfoldable pub pieces_of : ℕ → LayerShape → List Piece
pieces_of n s = map (piece_on s) (layers_below n s.layers)

-- shape by shape
unfoldable pub stack_pieces : ℕ → Stack → List Piece
stack_pieces n s = flat_map (pieces_of n) s.shapes
