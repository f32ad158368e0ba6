use Rattle.std.proofs.Common.{arith}
use Rattle.move_maps.specs.OwnCopper.{IsStepThere}
use Rattle.move_maps.proofs.Foreign.{on_other, map_there}
use Rattle.move_maps.proofs.moves.MapMoves.is_step.Goals as goal

pub returns-then-i-lt4 : goal.returns-then-i-lt4
returns-then-i-lt4 g c =
    let s = c.args.self.now in
    on_other c.tally.result 255 (IsStepThere s.legal.d.now s.legal.lat.now s.legal.net c.args.node c.args.i)
    (map_there s.legal.d.now s.legal.lat.now
    (g.C.Copper.items s.legal.c.now) s.map.now s.legal.net c.args.node c.args.i c.tally.result c.requires.ready.map
    c.requires.ready.alike c.requires.node c.requires.index c.tally.ensures (omega (arith, c.if-i-lt4.true)))
