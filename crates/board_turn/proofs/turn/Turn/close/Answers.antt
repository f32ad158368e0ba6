use Rattle.std.proofs.Common.{rules, sym, subst, ◌≡◌, ◌∙◌, length, vec_len, Some}
use Rattle.std.specs.Prelude.{IsSome}
use mathlib.Core.Option.{some-injective}
use Rattle.std.specs.Slots.{slots_items}
use Rattle.board_turn.specs.Lock.{Slot}
use Rattle.board_turn.proofs.Ends.{KnowsEnd, knows_all, ended}
use Rattle.board_turn.proofs.turn.Turn.close.Goals as goal

-- what the joined seat tells
known : (c : goal.After-take) → KnowsEnd c.self.inside.lock.shared.key c.join_passes-seat.result.me.0
    (slots_items c.close_with-closed.result.slots)
known c =
    let long : length c.args.passes.items ≡ vec_len c.args.passes = search rules in
    let joined = c.join_passes-seat.ensures in
    knows_all _ _ _ _ _ _ c.args.self c.args.passes.items c.self.view_is joined.3 joined.2
    (long ∙ c.requires.count.0) c.requires.count.1 c.close_with-closed.ensures.values.2

board_is : (c : goal.After-take) → c.take.result ≡ Some (known c).board
board_is c = some-injective c.take.result (Some (known c).board) (sym c.take.ensures.value ∙ (known c).slot)

pub unwrap-board-requires : goal.unwrap-board-requires
unwrap-board-requires c = subst (λ (x : Slot). IsSome x) (sym (board_is c)) (search rules)

-- the same, after the table was freed
known_after : (c : goal.After-free) → KnowsEnd c.self.inside.lock.shared.key c.join_passes-seat.result.me.0
    (slots_items c.close_with-closed.result.slots)
known_after c =
    let long : length c.args.passes.items ≡ vec_len c.args.passes = search rules in
    let joined = c.join_passes-seat.ensures in
    knows_all _ _ _ _ _ _ c.args.self c.args.passes.items c.self.view_is joined.3 joined.2
    (long ∙ c.requires.count.0) c.requires.count.1 c.close_with-closed.ensures.values.2

pub returns : goal.returns
returns c =
    let t = known_after c in
    let same : Some t.board ≡ Some c.unwrap-board.result = sym
    (some-injective c.take.result (Some t.board) (sym c.take.ensures.value ∙ t.slot)) ∙ c.unwrap-board.ensures in
    let b : t.board ≡ c.unwrap-board.result = cc in
    ended _ _ _ _ t c.args.self c.args.passes.items c.unwrap-board.result c.self.view_is c.join_passes-seat.ensures.3 b
