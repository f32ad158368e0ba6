use Rattle.std.proofs.Common.{◌≡◌, ◌++◌, drop}
use Rattle.dsn_design.specs.Counts.{items_from}
use Rattle.dsn_design.proofs.items.push_places.Given as goal

abbrev pub invariant-loop-place : goal.invariant-loop-place
invariant-loop-place l =
    l.items ++ items_from l.board.parts.now l.board.stacks.now l.number l.first (drop l.place-index l.places)
    ≡ l.initial.items ++ items_from l.board.parts.now l.board.stacks.now 0 0 l.places
