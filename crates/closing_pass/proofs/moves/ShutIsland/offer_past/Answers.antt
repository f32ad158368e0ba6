use Rattle.std.proofs.Common.{◌∙◌, List, ap, length, refl}
use Rattle.pcb_board.specs.declared.answer.Entry.{Entry}
use Rattle.closing_pass.specs.inner.Tries.{ShutIslandOf}
use Rattle.closing_pass.proofs.moves.ShutIsland.offer_past.Goals as goal

pub returns : goal.returns
returns c = record {
  closer = record {
    worker_is = refl;
    penalty_is = refl;
    base_is = c.len.ensures ∙ ap (λ (es : List Entry). length es) c.history.ensures
        ∙ ap (λ (s : ShutIslandOf). length s.board.history) c.self.view_is;
    net_is = ap (λ (s : ShutIslandOf). s.island.net) c.self.view_is;
  };
  from_is = refl;
  to_is = refl;
  add_is = refl;
  rip_is = refl;
  shoves_are = refl;
}
