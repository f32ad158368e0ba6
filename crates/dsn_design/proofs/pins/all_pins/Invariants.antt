use Rattle.std.proofs.Common.{◌≡◌, ◌++◌, drop}
use Rattle.dsn_design.specs.Counts.{pins_from}
use Rattle.dsn_design.proofs.pins.all_pins.Given as goal

abbrev pub invariant-loop-place : goal.invariant-loop-place
invariant-loop-place l =
    l.pins ++ pins_from l.board.parts.now l.board.stacks.now l.number l.component (drop l.place-index l.places)
    ≡ pins_from l.board.parts.now l.board.stacks.now 0 0 l.board.parts.now.placing.places
