use Rattle.std.proofs.Common.{◌≡◌, ◌++◌, take}
use Rattle.std.specs.Prelude.{map}
use Rattle.std.specs.List.{flat_map}
use Rattle.dsn_shapes.specs.Lists.{trees_of}
use Rattle.dsn_shapes.specs.Refusals.{noted}
use Rattle.ses_reader.specs.Copper.{metal_refusals}
use Rattle.ses_reader.specs.Session.{item_of}
use Rattle.ses_reader.proofs.network.push_items.Given as goal

abbrev pub invariant-loop-tree : goal.invariant-loop-tree
invariant-loop-tree l =
    (l.first ≡ noted l.initial.first (flat_map (metal_refusals l.index l.m) (trees_of (take l.tree-index l.copper))))
    × (l.found ≡ l.initial.found ++ map (item_of l.index l.m l.net) (trees_of (take l.tree-index l.copper)))
