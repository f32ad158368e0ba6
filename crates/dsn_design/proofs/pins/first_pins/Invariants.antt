use Rattle.std.proofs.Common.{◌≡◌, ◌++◌, drop}
use Rattle.dsn_design.specs.Counts.{firsts_from}
use Rattle.dsn_design.proofs.pins.first_pins.Given as goal

abbrev pub invariant-loop-place : goal.invariant-loop-place
invariant-loop-place l =
    l.firsts ++ firsts_from l.lib l.next (drop l.place-index l.places) ≡ firsts_from l.lib 0 l.places
