use Rattle.std.proofs.Common.{◌≡◌, []}
use Rattle.board_turn.specs.Claims.{saw}
use Rattle.board_turn.proofs.claims.next_of.Given as goal

abbrev pub invariant-loop : goal.invariant-loop
invariant-loop g l = (l.seat.table_id ≡ l.initial.seat.table_id)
    × (l.seat.me.0 ≡ saw l.initial.seat.me.0 l.seat.me.0.floor) × (l.seat.me.1 ≡ [])
