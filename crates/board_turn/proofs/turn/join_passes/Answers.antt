use Rattle.std.proofs.Common.{rules, ap, subst, ◌≡◌, ◌∙◌, ◌++◌, [], ◌∷◌, map, All}
use Rattle.atomic_table.specs.Table.{Me}
use Rattle.board_turn.specs.declared.lock.View.{View}
use Rattle.board_turn.specs.Turns.{PassOf, turn_of}
use Rattle.board_turn.specs.Lock.{Slot}
use Rattle.board_turn.specs.Seats.{pass_of}
use Rattle.board_turn.proofs.Moves.{joins}
use Rattle.board_turn.proofs.Seats.{join_more}
use Rattle.board_turn.proofs.Ends.{all_last, all_front}
use Rattle.board_turn.proofs.turn.join_passes.Goals as goal

pub join_seat-requires : goal.join_seat-requires
join_seat-requires c =
    let inv = c.loop-pass.invariant in (
      search rules,
      search rules,
      search rules,
      search rules,
      joins _ _ _ _ _ inv.free (ap (λ (m : Me Slot View). m.0.role) c.pass.invariant) inv.key,
    )

pub loop-pass-preserved : goal.loop-pass-preserved
loop-pass-preserved c =
    let inv = c.loop-pass.invariant in
    let did = c.join_seat.ensures in
    let z = c.args.lock.now.shared.table_id in
    let k = c.args.lock.now.shared.key in
    let of : PassOf → Type 0 = λ p. p.turn ≡ turn_of z k in
    let items = c.in-Some.ensures.items in
    let left = c.pop-in-loop-pass.new.self.items in
    let all : All of (left ++ c.in-Some.pass ∷ []) = subst (All of) items inv.rest in record {
      table = did.0 ∙ inv.table;
      slots = ap (λ (m : Me Slot View). m.1) did.2 ∙ inv.slots;
      free = ap (λ (m : Me Slot View). m.0.role) did.2 ∙ inv.free;
      key = ap (λ (m : Me Slot View). m.0.opening) did.2 ∙ inv.key;
      rest = all_front of left c.in-Some.pass all;
      made = ap (λ (m : Me Slot View). left ++ map (pass_of z k) m.0.passes) did.2
          ∙ join_more z c.pass.inside.seat.table_id k c.loop-pass.passes.items left
          c.args.passes.items c.in-Some.pass c.pass.inside.seat.me c.loop-pass.seat.me.0.passes items inv.made
          c.pass.view_is (all_last of left c.in-Some.pass all) c.pass.invariant;
    }
