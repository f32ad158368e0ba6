use Rattle.std.proofs.Common.{rules, arith, ap, ◌∙◌, length}
use Rattle.atomic_table.specs.Table.{Me}
use Rattle.board_turn.specs.declared.lock.View.{View}
use Rattle.board_turn.specs.Lock.{Slot}
use Rattle.board_turn.proofs.Moves.{reads, draws}
use Rattle.board_turn.proofs.lock.draw_ticket.Goals as goal

pub load-next-requires : goal.load-next-requires
load-next-requires g c = (search rules, search rules, reads _ _ _ _)

pub compare_exchange-found-requires : goal.compare_exchange-found-requires
compare_exchange-found-requires g c =
    let at = c.load-next.ensures.2 ∙ c.loop.invariant.1 ∙ c.requires.seat in (
      search rules,
      search rules,
      draws _ _ _ _ _ (omega arith) (ap (λ (m : Me Slot View). length m.0.passes) at)
          (ap (λ (m : Me Slot View). m.0.role) at),
    )
