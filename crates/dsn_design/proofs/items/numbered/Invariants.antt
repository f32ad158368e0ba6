use Rattle.std.proofs.Common.{◌≡◌}
use Rattle.dsn_design.specs.Items.{numbered_from}
use Rattle.dsn_design.proofs.items.numbered.Given as goal

abbrev pub invariant-loop-item : goal.invariant-loop-item
invariant-loop-item l = l.all ≡ numbered_from 0 l.yielded
