use Rattle.std.proofs.Common.{◌≡◌, List}
use Rattle.std.specs.Prelude.{flat_map}
use Rattle.cut_certificate.specs.declared.cut.Cut.{Cut}
use Rattle.route_run.proofs.facts.all_cuts.Given as goal

abbrev pub invariant-loop-cuts : goal.invariant-loop-cuts
invariant-loop-cuts l = l.all.items ≡ flat_map (λ (cuts : List Cut). cuts) l.yielded
