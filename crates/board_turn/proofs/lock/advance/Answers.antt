use Rattle.std.proofs.Common.{rules, ap, ◌∙◌, subst, sym}
use Rattle.atomic_table.specs.Table.{Me}
use Rattle.board_turn.specs.declared.event.Action.{Action}
use Rattle.board_turn.specs.declared.lock.Role.TheVariants.{Free}
use Rattle.board_turn.specs.declared.lock.View.{View}
use Rattle.board_turn.specs.Events.{Does}
use Rattle.board_turn.specs.Lock.{Slot}
use Rattle.board_turn.specs.inner.Lock.{with_event}
use Rattle.board_turn.specs.Seats.{pass_at}
use Rattle.board_turn.proofs.Moves.{advances}
use Rattle.board_turn.proofs.Seats.{free_role, slot_put, slot_given}
use Rattle.board_turn.proofs.lock.advance.Goals as goal

pub fetch_add-requires : goal.fetch_add-requires
fetch_add-requires g c =
    let put = slot_put _ _ _ _ _ c.requires.seat c.exchange-empty.ensures.3 in
    let did = c.requires.did in
    let noted = subst (λ (d : Action). Does did.0 d c.args.board) c.requires.noted did.2 in (
      search rules,
      search rules,
      advances _ _ _ _ (pass_at c.args.seat.now.me) c.args.ticket g.E.Noted.action did.0 c.args.board put did.1 noted,
    )

pub returns : goal.returns
returns g c =
    let p = pass_at c.args.seat.now.me in
    let put = slot_put _ _ _ _ _ c.requires.seat c.exchange-empty.ensures.3 in
    let view = ap (λ (m : Me Slot View). m.0) put in
    let left = slot_given _ _ _ _ _ put (c.fetch_add.ensures.2 c.args.lock.now.shared.key p c.args.ticket view) in
    (search rules, free_role _ _ Free _ left, ap pass_at left ∙ ap (with_event p) (sym c.requires.noted))
