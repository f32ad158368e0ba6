use Rattle.std.proofs.Common.{◌≡◌, take}
use Rattle.dsn_design.specs.Nets.{stack_numbers}
use Rattle.dsn_design.proofs.nets.stack_numbers.Given as goal

abbrev pub invariant-loop-name : goal.invariant-loop-name
invariant-loop-name l = l.numbers ≡ stack_numbers l.stacks (take l.name-index l.names)
