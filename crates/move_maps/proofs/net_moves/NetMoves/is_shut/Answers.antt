use Rattle.std.proofs.Common.{◌<◌, arith}
use Rattle.std.proofs.lemmas.Bool.{OnTrue_from}
use Rattle.route_lattice.specs.Legal.{IsOpen, probe_at}
use Rattle.move_maps.specs.Windows.{IsOutOfAll}
use Rattle.move_maps.proofs.Foreign.{on_then, map_shut}
use Rattle.move_maps.proofs.net_moves.NetMoves.is_shut.Goals as goal

pub returns : goal.returns
returns g c =
    let s = c.args.self.now.by_map in
    let items = g.C.Copper.items s.legal.c.now in
    let few : c.args.tally < 255 = omega (arith, c.ranges.tally, c.if-tally-eq255.false) in
    on_then c.is_off.result (IsOutOfAll s.legal.lat.now c.args.self.now.own c.args.node)
    (¬ (IsOpen s.legal.d.now items s.legal.net
    (probe_at s.legal.d.now s.legal.lat.now s.legal.net c.args.node c.args.i)))
    (map_shut s.legal.d.now s.legal.lat.now items s.map.now s.legal.net c.args.node c.args.i c.args.tally
    c.requires.ready.map
    c.requires.ready.alike c.requires.node c.requires.index c.requires.tally c.args.self.now.own c.requires.own few
    c.requires.counted) (OnTrue_from c.is_off.result _ c.is_off.ensures.0)
