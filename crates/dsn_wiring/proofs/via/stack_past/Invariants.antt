use Rattle.std.proofs.Common.{◌≡◌, drop}
use Rattle.std.specs.List.{list_any}
use Rattle.dsn_shapes.specs.declared.parts.LayerShape.{LayerShape}
use Rattle.dsn_wiring.specs.Vias.{spine_past}
use Rattle.dsn_wiring.proofs.via.stack_past.Given as goal

abbrev pub invariant-loop-shape : goal.invariant-loop-shape
invariant-loop-shape l = list_any (λ (s : LayerShape). spine_past l.at s.spine) (drop l.shape-index l.shapes)
    ≡ list_any (λ (s : LayerShape). spine_past l.at s.spine) l.stack.shapes
