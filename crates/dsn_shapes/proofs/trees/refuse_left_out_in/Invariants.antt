use Rattle.std.proofs.Common.{◌≡◌, take}
use Rattle.std.specs.List.{flat_map}
use Rattle.dsn_shapes.specs.Lists.{left_out}
use Rattle.dsn_shapes.specs.Refusals.{noted}
use Rattle.dsn_shapes.proofs.trees.refuse_left_out_in.Given as goal

abbrev pub invariant-loop-item : goal.invariant-loop-item
invariant-loop-item l = l.first ≡ noted l.initial.first (flat_map left_out (take l.item-index l.item-items))
