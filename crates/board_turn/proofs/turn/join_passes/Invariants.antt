use Rattle.std.proofs.Common.{◌≡◌, [], ◌++◌, map, All, vec_len, Some}
use Rattle.board_turn.specs.declared.lock.Role.TheVariants.{Free}
use Rattle.board_turn.specs.Turns.{turn_of}
use Rattle.board_turn.specs.Seats.{pass_of}
use Rattle.board_turn.proofs.turn.join_passes.Given as goal

abbrev pub invariant-loop-pass : goal.invariant-loop-pass
invariant-loop-pass l = record {
  table : l.seat.table_id ≡ l.lock.shared.table_id;
  slots : l.seat.me.1 ≡ [];
  free : l.seat.me.0.role ≡ Free;
  key : l.seat.me.0.opening ≡ Some l.lock.shared.key;
  rest : All (λ p. p.turn ≡ turn_of l.lock.shared.table_id l.lock.shared.key) l.passes.items;
  made : l.passes.items ++ map
      (pass_of l.lock.shared.table_id l.lock.shared.key) l.seat.me.0.passes ≡ l.fn.passes.items;
}

abbrev pub decreases-loop-pass : goal.decreases-loop-pass
decreases-loop-pass l = vec_len l.passes
