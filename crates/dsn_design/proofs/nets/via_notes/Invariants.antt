use Rattle.std.proofs.Common.{◌≡◌, ◌+◌, take}
use Rattle.std.specs.Prelude.{sum_by}
use Rattle.dsn_shapes.specs.Lists.{capped}
use Rattle.dsn_design.specs.Nets.{unusable_in, unusable_of_class}
use Rattle.dsn_design.proofs.nets.via_notes.Given as goal

abbrev pub invariant-loop-class : goal.invariant-loop-class
invariant-loop-class l = l.count ≡ capped
    (unusable_in l.stacks l.vias + sum_by (unusable_of_class l.stacks) (take l.class-index l.classes))
