use Rattle.std.proofs.Common.{◌≡◌, [], ◌-◌, ◌≤◌, vec_capacity, vec_len}
use Rattle.board_turn.specs.declared.lock.Role.TheVariants.{Free}
use Rattle.board_turn.specs.Turns.{passes_of, turn_of}
use Rattle.board_turn.specs.Lock.{view_of}
use Rattle.board_turn.specs.inner.Lock.{new_passes}
use Rattle.board_turn.proofs.turn.hand_out.Given as goal

abbrev pub invariant-names : goal.invariant-names
invariant-names l = record {
  table : l.seat.table_id ≡ l.fn.seat.table_id;
  seat : l.seat.me ≡ (view_of l.lock.shared.key (new_passes l._i (l.count - l._i)) Free, []);
  made : l.passes.items ≡ passes_of (turn_of l.lock.shared.table_id l.lock.shared.key) 0 l._i;
  len : vec_len l.passes ≡ l._i;
  room : l.count ≤ vec_capacity l.passes;
}
