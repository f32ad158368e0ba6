use Rattle.std.proofs.Common.{◌≡◌, drop}
use Rattle.std.specs.List.{list_all}
use Rattle.dsn_shapes.specs.declared.parts.LayerShape.{LayerShape}
use Rattle.dsn_placement.specs.Copper.{is_spine_placed}
use Rattle.dsn_placement.proofs.reach.are_shapes_placed.Given as goal

abbrev pub invariant-loop-shape : goal.invariant-loop-shape
invariant-loop-shape l = list_all (λ (s : LayerShape). is_spine_placed l.seat s.spine) (drop l.shape-index l.shapes)
    ≡ list_all (λ (s : LayerShape). is_spine_placed l.seat s.spine) l.shapes
