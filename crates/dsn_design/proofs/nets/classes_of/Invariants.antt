use Rattle.std.proofs.Common.{◌≡◌, take}
use Rattle.std.specs.Prelude.{map}
use Rattle.dsn_design.specs.Nets.{class_rules}
use Rattle.dsn_design.proofs.nets.classes_of.Given as goal

abbrev pub invariant-loop-class : goal.invariant-loop-class
invariant-loop-class l = l.rules ≡ map class_rules (take l.class-index l.classes)
