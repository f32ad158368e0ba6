use Rattle.std.proofs.Common.{◌≡◌, ◌++◌, drop}
use Rattle.dsn_design.specs.Counts.{pads_at}
use Rattle.dsn_design.proofs.items.push_pads.Given as goal

abbrev pub invariant-loop-pin : goal.invariant-loop-pin
invariant-loop-pin l =
    l.items ++ pads_at l.board.parts.now l.board.stacks.now l.number l.place l.next l.count (drop l.pin-index l.pins)
    ≡ l.initial.items ++ pads_at l.board.parts.now l.board.stacks.now l.number l.place 0 l.first l.pins
