use Rattle.std.proofs.Common.{◌≤◌, length, sym, subst}
use Rattle.std.specs.Prelude.{vec_len}
use Rattle.pcb_model.specs.Sound.{IsSound, Serves}
use Rattle.pcb_board.specs.Boards.{SnapOf}
use Rattle.route_run.specs.inner.Passing.{AreOpenNets}
use Rattle.route_run.proofs.connections.look_over.Goals as goal

pub gather-gathered-requires-clause-serves : goal.gather-gathered-requires-clause-serves
gather-gathered-requires-clause-serves c = subst (λ (s : SnapOf). IsSound s.design × Serves s.items s.design)
    (sym c.in_ok-snap.ensures) (c.keeps.ensures.sound, c.boards_serve.ensures.serves c.args.board.now c.keeps.ensures)

pub returns-in-Ok : goal.returns-in-Ok
returns-in-Ok c =
    let nets = c.gather-gathered.new.nets in
    let is = c.in-Ok.ensures in
    record {
      few = subst (λ (s : SnapOf). vec_len nets ≤ length s.design.nets) c.in_ok-snap.ensures is.few;
      are = subst (λ (s : SnapOf). AreOpenNets s.design s.items (length s.design.nets) nets.items c.in-Ok.count)
          c.in_ok-snap.ensures is.are;
    }
