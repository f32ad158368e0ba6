use Rattle.std.proofs.Common.{◌≡◌, drop}
use Rattle.dsn_placement.specs.Copper.{all_or_none, placed_shape}
use Rattle.dsn_placement.proofs.Each.{behind}
use Rattle.dsn_placement.proofs.copper.place_shapes.Given as goal

abbrev pub invariant-loop-shape : goal.invariant-loop-shape
invariant-loop-shape l = behind l.placed (all_or_none (placed_shape l.count l.seat) (drop l.shape-index l.shapes))
    ≡ all_or_none (placed_shape l.count l.seat) l.shapes
