use Rattle.std.proofs.Common.{arith}
use Rattle.move_maps.specs.OwnCopper.{IsViaThere}
use Rattle.move_maps.proofs.Foreign.{on_other, map_via}
use Rattle.move_maps.proofs.moves.MapMoves.is_via.Goals as goal

pub returns-then-i-ge4 : goal.returns-then-i-ge4
returns-then-i-ge4 g c =
    let s = c.args.self.now in
    on_other c.tally.result 255 (IsViaThere s.legal.d.now s.legal.lat.now s.legal.net c.args.node c.args.i)
    (map_via s.legal.d.now s.legal.lat.now
    (g.C.Copper.items s.legal.c.now) s.map.now s.legal.net c.args.node c.args.i c.tally.result c.requires.ready.map
    c.requires.ready.alike c.requires.node c.requires.index c.tally.ensures (omega (arith, c.if-i-ge4.true)))
