use Rattle.tests_board.proofs.of_nets.walk_between.Goals as goal

pub least_walk-requires-clause-ready : goal.least_walk-requires-clause-ready
least_walk-requires-clause-ready c =
    rw (
      c.of-moves.ensures.d,
      c.of-moves.ensures.lat,
      c.of-moves.ensures.c,
      c.of-moves.ensures.net,
      c.of-moves.ensures.via_cost,
    )
    (c.requires.can_move, c.requires.serves)

pub least_walk-requires-clause-sound : goal.least_walk-requires-clause-sound
least_walk-requires-clause-sound c =
    rw (
      c.of-moves.ensures.d,
      c.of-moves.ensures.lat,
      c.of-moves.ensures.c,
      c.of-moves.ensures.net,
      c.of-moves.ensures.via_cost,
    )
    (c.legal_graph_sound.ensures c.args.d.now c.args.lat.now c.args.copper.now 0 2000000 c.requires.can_move)

pub least_walk-requires-clause-starts : goal.least_walk-requires-clause-starts
least_walk-requires-clause-starts c = rw c.of-moves.ensures.lat c.requires.starts

pub returns : goal.returns
returns c =
    let answers = rw c.in-Walk.is at c.in_ok-walk.ensures in
    let least = rw (
      c.of-moves.ensures.d,
      c.of-moves.ensures.lat,
      c.of-moves.ensures.c,
      c.of-moves.ensures.net,
      c.of-moves.ensures.via_cost,
    ) at answers in
    c.net_walks.ensures.walk c.args.d.now c.args.lat.now c.args.copper.now 0 2000000 c.args.starts.now c.args.goals.now
    c.in-Walk.walk c.requires.starts least.walk
