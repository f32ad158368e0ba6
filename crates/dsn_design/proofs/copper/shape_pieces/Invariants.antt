use Rattle.std.proofs.Common.{◌≡◌, take}
use Rattle.std.specs.List.{flat_map}
use Rattle.dsn_design.specs.Copper.{pieces_of}
use Rattle.dsn_design.proofs.copper.shape_pieces.Given as goal

abbrev pub invariant-loop-shape : goal.invariant-loop-shape
invariant-loop-shape l = l.pieces ≡ flat_map (pieces_of l.n) (take l.shape-index l.shapes)
