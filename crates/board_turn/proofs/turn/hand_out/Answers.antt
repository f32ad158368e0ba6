use Rattle.std.proofs.Common.{rules, arith, ap, sym, refl, ◌≡◌, ◌∙◌, ◌-◌, ◌+◌, ◌<◌}
use Rattle.atomic_table.specs.Table.{Me}
use Rattle.board_turn.specs.declared.lock.View.{View}
use Rattle.board_turn.specs.Turns.{passes_of, turn_of}
use Rattle.board_turn.specs.Lock.{Slot}
use Rattle.board_turn.proofs.Moves.{splits}
use Rattle.board_turn.proofs.Seats.{split_rest, split_first, pass_is, passes_more, last_one, none_given, own_role}
use Rattle.board_turn.proofs.turn.hand_out.Goals as goal

pub split_seat-requires : goal.split_seat-requires
split_seat-requires c =
    let s = c.names.invariant.seat in (
      search rules,
      search rules,
      splits _ _ _ (ap (λ (m : Me Slot View). m.0.role) s) (ap (λ (m : Me Slot View). m.0.opening) s),
    )

pub push_reserved-requires : goal.push_reserved-requires
push_reserved-requires c = omega (arith, c.names.invariant.len, c.names.invariant.room, c.requires.room)

pub push_reserved-requires-2 : goal.push_reserved-requires-2
push_reserved-requires-2 c = omega (arith, c.names.invariant.len, c.names.invariant.room, c.requires.room)

pub names-preserved : goal.names-preserved
names-preserved c =
    let i = c.names._i in
    let n = c.args.count in
    let s = c.split_seat.ensures in
    let inv = c.names.invariant in
    let k = c.args.lock.now.shared.key in
    let low : i < n = omega (arith, c.requires.room) in
    let more : 0 < n - i = omega arith in
    let one = s.4 ∙ split_first k i (n - i) c.names.seat.me more inv.seat in
    let p = pass_is c.args.lock.now.shared.table_id c.split_seat.result.table_id k i c.split_seat.result.me (s.3
    ∙ inv.table ∙ c.requires.lock.0) one in record {
      table = s.0 ∙ inv.table;
      seat = s.2 ∙ split_rest k i n c.names.seat.me low inv.seat;
      made = c.push_reserved.ensures.items
          ∙ passes_more c.names.passes.items (turn_of c.args.lock.now.shared.table_id k) i _ inv.made p;
      len = c.push_reserved.ensures.len ∙ ap (λ x. x + 1) inv.len;
      room = let r = inv.room in let q = c.push_reserved.ensures.capacity in omega arith;
    }

pub returns-clause-passes : goal.returns-clause-passes
returns-clause-passes c =
    let i = c.names._i in
    let n = c.args.count in
    let inv = c.names.invariant in
    let k = c.args.lock.now.shared.key in
    let last : n ≡ i + 1 = omega (arith, c.requires.room) in
    let one = last_one k i n c.names.seat.me last inv.seat in
    let p = pass_is c.args.lock.now.shared.table_id c.names.seat.table_id k i c.names.seat.me (inv.table
    ∙ c.requires.lock.0) one in
    c.push_reserved-2.ensures.items
    ∙ passes_more c.names.passes.items (turn_of c.args.lock.now.shared.table_id k) i _ inv.made p
    ∙ ap (passes_of (turn_of c.args.lock.now.shared.table_id k) 0) (sym last)

pub overflow_sub-i-end : goal.overflow_sub-i-end
overflow_sub-i-end c = omega (arith, c.requires.room)

pub names-init : goal.names-init
names-init c = record {
  table = refl;
  seat = none_given c.args.lock.now.shared.key c.args.count c.args.seat.me c.requires.seat;
  made = c.requires.room.0;
  len = c.requires.room.1;
  room = c.requires.room.2;
}

pub invariant_of-push_reserved : goal.invariant_of-push_reserved
invariant_of-push_reserved c =
    let i = c.names._i in
    let n = c.args.count in
    let k = c.args.lock.now.shared.key in
    let more : 0 < n - i = omega (arith, c.requires.room) in
    own_role k _ c.split_seat.result.me
    (c.split_seat.ensures.4 ∙ split_first k i (n - i) c.names.seat.me more c.names.invariant.seat)

pub invariant_of-push_reserved-2 : goal.invariant_of-push_reserved-2
invariant_of-push_reserved-2 c =
    let i = c.names._i in
    let n = c.args.count in
    let k = c.args.lock.now.shared.key in
    let last : n ≡ i + 1 = omega (arith, c.requires.room) in
    own_role k _ c.names.seat.me (last_one k i n c.names.seat.me last c.names.invariant.seat)

pub returns-clause-len : goal.returns-clause-len
returns-clause-len c =
    let last : c.args.count ≡ c.names._i + 1 = omega (arith, c.requires.room) in
    let put = c.push_reserved-2.ensures in (
      put.len ∙ ap (λ x. x + 1) c.names.invariant.len ∙ sym last,
      omega (arith, put.capacity, c.names.invariant.room),
    )
