use Rattle.std.proofs.Common.{◌<◌, length, sym, IfOk}
use Rattle.pcb_model.specs.Sound.{IsSound, Serves}
use Rattle.pcb_islands.specs.Islands.{AreIslands}
use Rattle.closing_pass.proofs.Joining.{on_snap, of_snap}
use Rattle.wide_pass.proofs.join.islands_on.Goals as goal

pub islands-found-requires-clause-sound : goal.islands-found-requires-clause-sound
islands-found-requires-clause-sound c =
    on_snap (λ d xs. IsSound d) c.args.board.now c.in_ok-snap.snap c.design.result.now
    c.in_ok-snap.ensures c.design.ensures c.keeps.ensures.sound

pub islands-found-requires-clause-net : goal.islands-found-requires-clause-net
islands-found-requires-clause-net c = on_snap (λ d xs. c.args.net < length d.nets) c.args.board.now c.in_ok-snap.snap
    c.design.result.now c.in_ok-snap.ensures c.design.ensures c.requires

pub islands-found-requires-clause-serves : goal.islands-found-requires-clause-serves
islands-found-requires-clause-serves c =
    let serves = c.boards_serve.ensures.serves c.args.board.now c.keeps.ensures in (
      sym c.design.ensures,
      on_snap (λ d xs. Serves xs d) c.args.board.now c.in_ok-snap.snap c.design.result.now
          c.in_ok-snap.ensures c.design.ensures serves,
    )

pub returns : goal.returns
returns c =
    of_snap (λ d xs. IfOk c.islands-found.result (AreIslands d xs c.args.net)) c.args.board.now c.in_ok-snap.snap
    c.design.result.now c.in_ok-snap.ensures c.design.ensures
    c.islands-found.ensures
