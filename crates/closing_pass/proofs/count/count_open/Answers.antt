use Rattle.std.proofs.Common.{subst, sym}
use Rattle.std.specs.Prelude.{IfOk}
use Rattle.pcb_model.specs.Sound.{IsSound, Serves}
use Rattle.pcb_board.specs.Boards.{SnapOf}
use Rattle.closing_pass.specs.OpenCount.{IsOpenCount}
use Rattle.closing_pass.proofs.count.count_open.Goals as goal

pub count_on-count-requires : goal.count_on-count-requires
count_on-count-requires c = record {
  serves = subst (λ (s : SnapOf). IsSound s.design × Serves s.items s.design)
      (sym c.in_ok-snap.ensures)
      (c.keeps.ensures.sound, c.boards_serve.ensures.serves c.args.board.now c.keeps.ensures);
}

pub returns : goal.returns
returns c =
    subst (λ (s : SnapOf). IfOk c.count_on-count.result (IsOpenCount s.design s.items)) c.in_ok-snap.ensures
    c.count_on-count.ensures
