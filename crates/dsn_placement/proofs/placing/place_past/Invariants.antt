use Rattle.std.proofs.Common.{◌≡◌, drop}
use Rattle.dsn_placement.specs.Placing.{first_past}
use Rattle.dsn_placement.proofs.placing.place_past.Given as goal

abbrev pub invariant-loop-component : goal.invariant-loop-component
invariant-loop-component l =
    first_past l.what l.count (drop l.component-index l.laid) ≡ first_past l.what l.before l.laid
