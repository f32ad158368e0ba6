use Rattle.std.proofs.Common.{◌≡◌, take}
use Rattle.std.specs.List.{flat_map}
use Rattle.dsn_shapes.specs.Lists.{trees_of}
use Rattle.dsn_shapes.specs.Refusals.{noted}
use Rattle.dsn_shapes.specs.Rules.{width_left_out}
use Rattle.dsn_shapes.proofs.rules.leave_out_widths.Given as goal

abbrev pub invariant-loop-tree : goal.invariant-loop-tree
invariant-loop-tree l =
    l.first ≡ noted l.initial.first (flat_map width_left_out (trees_of (take l.tree-index l.widths)))
