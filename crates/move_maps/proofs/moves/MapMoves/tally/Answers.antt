use Rattle.std.proofs.Common.{◌∙◌}
use Rattle.move_maps.proofs.Tallies.{within, place}
use Rattle.move_maps.proofs.moves.MapMoves.tally.Goals as goal

pub get-requires : goal.get-requires
get-requires g c =
    let s = c.args.self.now in
    within s.legal.d.now s.legal.lat.now
    (g.C.Copper.items s.legal.c.now) s.map.now s.legal.net s.legal.arity c.args.node c.args.i c.requires.ready.map
    c.requires.ready.alike s.legal.arity_is c.requires.node c.requires.index

pub returns : goal.returns
returns g c =
    let s = c.args.self.now in
    c.get.ensures ∙ place s.legal.d.now s.legal.lat.now
    (g.C.Copper.items s.legal.c.now) s.map.now s.legal.net s.legal.arity c.args.node c.args.i c.requires.ready.map
    c.requires.ready.alike s.legal.arity_is
