use Rattle.std.proofs.Common.{rules, ◌∙◌, Some, sym, subst}
use Rattle.std.specs.Prelude.{IsSome}
use Rattle.board_turn.specs.Lock.{Slot}
use Rattle.board_turn.specs.Seats.{pass_at}
use Rattle.board_turn.proofs.Moves.{looks}
use Rattle.board_turn.proofs.Seats.{slot_held, slot_found, slot_put, out_role, taken_is}
use Rattle.board_turn.proofs.lock.take_board.Goals as goal

pub load-served-requires : goal.load-served-requires
load-served-requires g c = (
  search rules,
  search rules,
  looks _ _ _ _ (pass_at c.args.seat.now.me) c.args.ticket (c.loop.invariant.1 ∙ c.requires.seat),
)

pub exchange-requires : goal.exchange-requires
exchange-requires g c =
    let s = (c.load-served.ensures.2 c.args.lock.now.shared.key (pass_at c.args.seat.now.me) c.args.ticket
    (c.loop.invariant.1 ∙ c.requires.seat)).1 c.if-served-ticket.true in
    (search rules, (Some s.board, slot_held _ _ _ s.now_is))

pub unwrap-requires : goal.unwrap-requires
unwrap-requires g c =
    let s = (c.load-served.ensures.2 c.args.lock.now.shared.key (pass_at c.args.seat.now.me) c.args.ticket
    (c.loop.invariant.1 ∙ c.requires.seat)).1 c.if-served-ticket.true in
    let same = slot_found _ _ c.exchange.result _ s.now_is c.exchange.ensures.2 in
    subst (λ (x : Slot). IsSome x) (sym same) (search rules)

pub returns-then-served-ticket-clause-seat : goal.returns-then-served-ticket-clause-seat
returns-then-served-ticket-clause-seat g c =
    let s = (c.load-served.ensures.2 c.args.lock.now.shared.key (pass_at c.args.seat.now.me) c.args.ticket
    (c.loop.invariant.1 ∙ c.requires.seat)).1 c.if-served-ticket.true in
    (search rules, out_role _ _ _ c.exchange.new.seat.me (slot_put _ _ _ _ _ s.now_is c.exchange.ensures.3))

pub returns-then-served-ticket-clause-taken : goal.returns-then-served-ticket-clause-taken
returns-then-served-ticket-clause-taken g c =
    let s = (c.load-served.ensures.2 c.args.lock.now.shared.key (pass_at c.args.seat.now.me) c.args.ticket
    (c.loop.invariant.1 ∙ c.requires.seat)).1 c.if-served-ticket.true in
    let same = slot_found _ _ c.exchange.result _ s.now_is c.exchange.ensures.2 in
    let put = slot_put _ _ _ _ _ s.now_is c.exchange.ensures.3 in
    taken_is _ _ _ _ c.exchange.new.seat.me c.unwrap.result s put (sym same ∙ c.unwrap.ensures)

pub loop-preserved : goal.loop-preserved
loop-preserved g c =
    let x = (c.load-served.ensures.2 c.args.lock.now.shared.key (pass_at c.args.seat.now.me) c.args.ticket
    (c.loop.invariant.1 ∙ c.requires.seat)).0 c.if-served-ticket.false in
    (search rules, x ∙ c.loop.invariant.1)
