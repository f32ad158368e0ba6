use Rattle.std.proofs.Common.{◌≡◌, drop}
use Rattle.std.specs.List.{list_any}
use Rattle.dsn_shapes.specs.Layers.{stands_for}
use Rattle.dsn_shapes.proofs.layers.some_stands.Given as goal

abbrev pub invariant-loop-layer : goal.invariant-loop-layer
invariant-loop-layer l =
    list_any (stands_for l.group l.word) (drop l.layer-index l.layers) ≡ list_any (stands_for l.group l.word) l.layers
