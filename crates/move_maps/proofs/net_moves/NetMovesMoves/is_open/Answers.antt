use Rattle.move_maps.proofs.Tallies.{opens}
use Rattle.move_maps.proofs.net_moves.NetMovesMoves.is_open.Goals as goal

pub returns-then-tally-eq0-clause-opens : goal.returns-then-tally-eq0-clause-opens
returns-then-tally-eq0-clause-opens g c =
    let s = c.args.self.now.by_map in
    opens s.legal.d.now s.legal.lat.now
    (g.C.Copper.items s.legal.c.now) s.map.now s.legal.net c.args.node c.args.i c.tally-tally.result c.requires.ready.1
    c.requires.ready.2 c.requires.node c.requires.index c.tally-tally.ensures c.if-tally-eq0.true

pub tally-tally-requires-clause-ready : goal.tally-tally-requires-clause-ready
tally-tally-requires-clause-ready g c = record {
  can_move = c.requires.ready.0.0;
  map = c.requires.ready.1;
  alike = c.requires.ready.2;
}

pub is_shut-requires-clause-ready : goal.is_shut-requires-clause-ready
is_shut-requires-clause-ready g c = record {
  can_move = c.requires.ready.0.0;
  map = c.requires.ready.1;
  alike = c.requires.ready.2;
}
