use Rattle.std.proofs.Common.{get_or, length, refl, rules, true≢false, sym, ◌<◌}
use Rattle.pcb_board.proofs.Turns.{mark_more}
use Rattle.pcb_board.proofs.renew.renew.Goals as goal

pub loop-id-init : goal.loop-id-init
loop-id-init c = record {
  marked = record { named = λ x d within h. absurd (true≢false (sym h)); others = λ x d within free. refl };
  long = refl;
  room = refl;
}

pub loop-id-preserved : goal.loop-id-preserved
loop-id-preserved c =
    let inside : get_or c.args.ids.now c.loop-id.id-index 0 < length c.loop-id.changed.items = search rules in
    record {
      marked = mark_more c.args.ids.now c.loop-id.id-index c.args.number c.args.changed.now.items
          c.loop-id.changed.items _ c.loop-id-test.true inside c.loop-id.invariant.marked refl;
      long = search rules;
      room = search rules;
    }
