use Rattle.std.proofs.Common.{◌≡◌, ◌++◌, take}
use Rattle.std.specs.Prelude.{map}
use Rattle.std.specs.List.{flat_map}
use Rattle.dsn_shapes.specs.Lists.{trees_of}
use Rattle.dsn_shapes.specs.Refusals.{noted}
use Rattle.dsn_placement.specs.Places.{laid_of, place_refusals}
use Rattle.dsn_placement.proofs.place.push_places.Given as goal

abbrev pub invariant-loop-tree : goal.invariant-loop-tree
invariant-loop-tree l =
    (l.first ≡ noted l.initial.first
    (flat_map (place_refusals l.around.scale.nm l.around.flip_last l.around.library.now l.image)
    (trees_of (take l.tree-index l.trees))))
    × (l.laid ≡ l.initial.laid ++ map (laid_of l.around.scale.nm l.around.flip_last l.around.library.now l.image)
    (trees_of (take l.tree-index l.trees)))
