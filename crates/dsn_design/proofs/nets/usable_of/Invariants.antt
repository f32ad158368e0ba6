use Rattle.std.proofs.Common.{◌≡◌, take}
use Rattle.dsn_design.specs.Nets.{usable_of}
use Rattle.dsn_design.proofs.nets.usable_of.Given as goal

abbrev pub invariant-loop-via : goal.invariant-loop-via
invariant-loop-via l = l.usable ≡ usable_of l.stacks (take l.via-index l.vias)
