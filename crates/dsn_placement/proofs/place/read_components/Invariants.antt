use Rattle.std.proofs.Common.{◌≡◌, take}
use Rattle.std.specs.List.{flat_map}
use Rattle.dsn_shapes.specs.Lists.{trees_of}
use Rattle.dsn_shapes.specs.Refusals.{noted}
use Rattle.dsn_placement.specs.Places.{component_laid, component_refusals}
use Rattle.dsn_placement.proofs.place.read_components.Given as goal

abbrev pub invariant-loop-tree : goal.invariant-loop-tree
invariant-loop-tree l =
    (l.first ≡ noted l.initial.first
    (flat_map (component_refusals l.around.scale.nm l.around.flip_last l.around.library.now)
    (trees_of (take l.tree-index l.trees))))
    × (l.laid ≡ flat_map (component_laid l.around.scale.nm l.around.flip_last l.around.library.now)
    (trees_of (take l.tree-index l.trees)))
