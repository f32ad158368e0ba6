use Rattle.std.proofs.Common.{◌≡◌}
use Rattle.std.specs.Prelude.{map}
use Rattle.dsn_placement.specs.declared.place.Laid.{Laid}
use Rattle.dsn_placement.proofs.placing.places_of.Given as goal

abbrev pub invariant-loop-component : goal.invariant-loop-component
invariant-loop-component l = l.places ≡ map (λ (c : Laid). c.place) l.yielded
