use Rattle.std.proofs.Common.{◌≡◌, drop}
use Rattle.std.specs.List.{list_all}
use Rattle.dsn_placement.specs.Copper.{is_pin_placed}
use Rattle.dsn_placement.proofs.reach.are_pins_placed.Given as goal

abbrev pub invariant-loop-pin : goal.invariant-loop-pin
invariant-loop-pin l = list_all (is_pin_placed l.stand l.stacks) (drop l.pin-index l.pins)
    ≡ list_all (is_pin_placed l.stand l.stacks) l.pins
