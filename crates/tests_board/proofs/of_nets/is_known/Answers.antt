use Rattle.tests_board.proofs.of_nets.is_known.Goals as goal

pub are_shut_in-requires-clause-ready : goal.are_shut_in-requires-clause-ready
are_shut_in-requires-clause-ready c =
    rw (
      c.of-moves.ensures.d,
      c.of-moves.ensures.lat,
      c.of-moves.ensures.c,
      c.of-moves.ensures.net,
      c.of-moves.ensures.via_cost,
    )
    (c.requires.can_move, c.requires.serves)

pub are_shut_in-requires-clause-sound : goal.are_shut_in-requires-clause-sound
are_shut_in-requires-clause-sound c =
    rw (
      c.of-moves.ensures.d,
      c.of-moves.ensures.lat,
      c.of-moves.ensures.c,
      c.of-moves.ensures.net,
      c.of-moves.ensures.via_cost,
    )
    (c.legal_graph_sound.ensures c.args.d.now c.args.lat.now c.args.copper.now 0 2000000 c.requires.can_move)

pub are_shut_in-requires-clause-turns : goal.are_shut_in-requires-clause-turns
are_shut_in-requires-clause-turns c =
    rw (
      c.of-moves.ensures.d,
      c.of-moves.ensures.lat,
      c.of-moves.ensures.c,
      c.of-moves.ensures.net,
      c.of-moves.ensures.via_cost,
    )
    (c.legal_moves_lead_back.ensures c.args.d.now c.args.lat.now c.args.copper.now 0 2000000)

pub are_shut_in-requires-clause-starts : goal.are_shut_in-requires-clause-starts
are_shut_in-requires-clause-starts c = rw c.of-moves.ensures.lat c.requires.starts
