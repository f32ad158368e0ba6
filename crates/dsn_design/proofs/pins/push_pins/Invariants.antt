use Rattle.std.proofs.Common.{◌≡◌, ◌++◌, drop}
use Rattle.dsn_design.specs.Counts.{pins_at}
use Rattle.dsn_design.proofs.pins.push_pins.Given as goal

abbrev pub invariant-loop-image_pin : goal.invariant-loop-image_pin
invariant-loop-image_pin l =
    l.pins ++ pins_at l.board.parts.now l.board.stacks.now l.number l.component l.place l.next
    (drop l.image_pin-index l.image_pins) ≡ l.initial.pins
    ++ pins_at l.board.parts.now l.board.stacks.now l.number l.component l.place 0 l.image_pins
